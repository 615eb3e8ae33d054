mod PartLaws
mod Places
mod PrintLaws
mod StartRows
mod StoreLaws

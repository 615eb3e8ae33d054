pub mod Subscripts
pub mod Lefts

pub mod NamedLines

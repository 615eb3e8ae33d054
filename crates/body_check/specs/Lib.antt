pub mod ForallRules
pub mod BodyRules

pub mod ReductionStatements
pub mod NestNames
pub mod Paths
pub mod NestRules
pub mod Gathering

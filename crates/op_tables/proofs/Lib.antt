pub mod Codes
pub mod Joins
pub mod Powers
pub mod ReductionVariables
pub mod Wrapping

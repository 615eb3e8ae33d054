pub mod OperatorRanges
pub mod ReductionRanges
pub mod Outcomes
pub mod Values
pub mod Storing
pub mod Runs
pub mod Starts

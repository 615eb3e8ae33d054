pub mod Periods
pub mod Runs

pub mod Measures
mod StatementRows
pub mod WalkSteps

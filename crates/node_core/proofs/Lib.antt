pub mod PhaseSteps
pub mod Indices
pub mod Rounds
pub mod Stepping

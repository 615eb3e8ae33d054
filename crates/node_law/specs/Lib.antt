pub mod Cores
pub mod LocalSteps
pub mod NextPhase
pub mod NodeSteps
pub mod Phases
pub mod Reached

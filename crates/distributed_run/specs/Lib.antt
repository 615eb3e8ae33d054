pub mod Listed
pub mod Outcomes
pub mod ProgramMessages
pub mod Ran
pub mod StepLines
pub mod Values

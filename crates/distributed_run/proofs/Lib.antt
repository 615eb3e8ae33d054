mod GridLaws
mod LastValues
pub mod NodesRun
mod OverRuns
mod StepLines
mod PassedLines
mod ProgramLines
mod AcceptedLines
mod NextLines

pub mod LeastReasons
mod DistributedTurns
mod ArrangementExtents
mod ProgramArrays
mod DistributedLines
pub mod DistributedMaps
mod Examples

pub mod Slots
pub mod Runs
mod Loops
mod Bodies
pub mod Rows
mod Asked
pub mod Counts
pub mod KeptFaults
pub mod PlacedActs
mod PlacedRows
mod AfterActs
mod PlacedParts
mod PlacedBodies
mod Paired
mod OwnStores
mod PlacedMarks
mod Finals
mod Unmade
mod MadeCopies
pub mod PlacedCopies
pub mod Nests
mod Examples

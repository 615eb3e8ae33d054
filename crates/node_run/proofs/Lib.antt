mod Copies
mod Exchange
mod Goes
mod JoinedValues
pub mod Keeping
pub mod KeptFaults
pub mod CodedSteps
pub mod Openings
pub mod OwnedPieces
mod PartPhase
pub mod PartsInARow
pub mod PieceLaws
pub mod Picked
mod Plain
mod Ranges
mod ScannedPieces
mod PhasesInARow
mod Scans
pub mod Reading
mod Reduces
mod Remaps
pub mod WholeRuns
mod Spots
mod Stepping
pub mod Numbers
pub mod PairLetters
mod Messages
mod TreeFold
mod TreeLevels
mod TreeRun
pub mod TreeActs
mod TreeSteps
pub mod Wholes

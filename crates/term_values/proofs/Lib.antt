pub mod Counts
pub mod Each
pub mod ElementPlaces
pub mod InOrder
pub mod LinesAndPlanes
pub mod Members
pub mod Operands
pub mod Pairs
pub mod Parts
mod Runs
pub mod SectionSubscripts
pub mod Sizes
pub mod ValuesOver

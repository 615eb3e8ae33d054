pub mod Periodic
pub mod Residues
pub mod UpTo
pub mod Spans
pub mod Tables
pub mod AscendingLists
pub mod Offsets

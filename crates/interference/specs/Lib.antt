pub mod Clashes
pub mod Entry
pub mod IterationSpaces
pub mod Limits
pub mod Walks
pub mod AllVisits
pub mod Scans

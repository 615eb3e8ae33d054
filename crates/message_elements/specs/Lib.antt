pub mod Ascending
pub mod Candidates
pub mod Elements

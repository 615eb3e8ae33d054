pub mod Owned
pub mod Dims
pub mod Candidates
pub mod Holdings
pub mod HeldProps

pub mod Absorbed
pub mod Positions
pub mod Rounds

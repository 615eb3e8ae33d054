pub mod Ranks
pub mod Lowered

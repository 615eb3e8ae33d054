pub mod Ascending
pub mod AllSpots
pub mod Arranging

pub mod Owned
pub mod Own
pub mod Visited
pub mod Parts

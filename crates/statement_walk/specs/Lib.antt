pub mod Head
pub mod Heads
pub mod Nests
pub mod Views

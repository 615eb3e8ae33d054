pub mod Copies
pub mod Parts
pub mod Places
pub mod Stores
pub mod Views

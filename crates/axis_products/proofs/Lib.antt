pub mod Products
pub mod Ranks

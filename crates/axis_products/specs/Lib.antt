pub mod Products
pub mod Tests
pub mod Counts

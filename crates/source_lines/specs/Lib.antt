pub mod Cut
pub mod PhysicalLines
pub mod Breaches
pub mod LogicalLines
pub mod Steps

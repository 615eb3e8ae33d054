pub mod WellFormed
pub mod Anchors
pub mod NestEvents
pub mod Passed

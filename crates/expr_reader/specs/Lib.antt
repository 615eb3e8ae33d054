pub mod Reading
pub mod TokenReading
pub mod Spelled
pub mod Longest
pub mod Front

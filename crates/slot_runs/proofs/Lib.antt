pub mod Begun
pub mod KnownOperations

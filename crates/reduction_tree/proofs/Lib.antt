pub mod Acts
pub mod Gathered
pub mod Owners
pub mod RoundsUp

pub mod Steps
pub mod ByKind
pub mod Bounds
pub mod Kinding
pub mod Spelled
pub mod Theorem

pub mod Equations
pub mod Sound
pub mod Operands
pub mod Lists
pub mod Complete
pub mod Apart
pub mod Theorem
pub mod Steps

pub mod Shifts
pub mod Places
pub mod Values
pub mod Elements

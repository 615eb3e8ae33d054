pub mod Digits
pub mod FirstBreaches
pub mod FirstLine
pub mod Ranges
pub mod ElementOrder
pub mod Places
pub mod Integers
pub mod Elements

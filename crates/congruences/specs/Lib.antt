pub mod Naturals
pub mod Congruences
pub mod NaturalProgressions
pub mod Bezout
pub mod Progressions
pub mod Shifts

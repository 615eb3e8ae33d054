pub mod Tables
pub mod Words
pub mod Arguments
pub mod Operators
pub mod Joins
pub mod Reductions

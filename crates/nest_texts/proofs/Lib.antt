pub mod Statements
pub mod Counting
pub mod Codes
pub mod Values

pub mod Designators
pub mod Intrinsics
pub mod Lexemes
pub mod Rows

pub mod Dims
pub mod Symbols
pub mod Constants
pub mod Types
pub mod Operands
pub mod Partial
pub mod Inner

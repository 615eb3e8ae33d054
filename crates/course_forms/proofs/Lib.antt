pub mod Operands
pub mod TurnedForms
pub mod Drops
pub mod Before
pub mod CopyDims

pub mod Sections
pub mod Blocks
pub mod GenBlocks
pub mod Lines
mod Examples

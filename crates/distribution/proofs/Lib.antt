pub mod GivenBlocks
pub mod Cycles
pub mod Repeats
pub mod CountLaws

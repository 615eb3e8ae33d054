pub mod Spans
pub mod Runs
pub mod Pieces

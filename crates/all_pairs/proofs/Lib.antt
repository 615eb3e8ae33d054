mod ClosedRows
mod OpenRows
pub mod Tables
mod Transposition
mod Walks

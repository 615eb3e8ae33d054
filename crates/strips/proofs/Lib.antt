pub mod InOrder
pub mod Joined
pub mod RowSubscripts
pub mod Runs

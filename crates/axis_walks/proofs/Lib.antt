pub mod Tests
mod Merges
mod RowLaws

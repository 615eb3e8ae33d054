pub mod TextLines
pub mod KeptLines
pub mod Before
pub mod Messages
pub mod RowLines
pub mod RowParts
pub mod Settings
pub mod Grown

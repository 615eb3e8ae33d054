pub mod Rows
pub mod Made
pub mod Forms
pub mod InnerLoops

pub mod Operated
pub mod Strips

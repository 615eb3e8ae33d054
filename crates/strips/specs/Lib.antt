pub mod Places
pub mod SlowSections
pub mod Strips

pub mod Made
pub mod Redistributions

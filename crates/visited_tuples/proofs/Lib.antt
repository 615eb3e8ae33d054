pub mod Members
pub mod Reading
pub mod Taken
pub mod Sent
pub mod Owning
pub mod Fewer
pub mod OfParts

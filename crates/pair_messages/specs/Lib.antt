pub mod Sent
pub mod Counts
pub mod Moved
pub mod Classes
pub mod Enough

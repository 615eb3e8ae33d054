pub mod Anchors
pub mod Settled

pub mod Reach
pub mod Terms
pub mod Goes
pub mod Keeping
pub mod Scatter
pub mod Indexed
pub mod Anchors

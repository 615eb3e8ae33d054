pub mod Storage
pub mod Effect
pub mod Spots
pub mod Truth
pub mod Parted

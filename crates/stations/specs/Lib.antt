pub mod Lettered
pub mod Stations
pub mod Steps
pub mod Joined
pub mod Ended

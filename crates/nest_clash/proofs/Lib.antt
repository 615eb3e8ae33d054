mod Lists
pub mod FirstOfAll
mod Visiting
mod Scanning
mod OneClash

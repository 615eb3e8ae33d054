mod Lists
mod Keeps
mod StationLaw
mod EndsAlike
mod Opened
mod Gathered
pub mod Sent

pub mod InPlace
mod Targets

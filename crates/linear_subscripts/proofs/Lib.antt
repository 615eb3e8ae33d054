pub mod FoundNames
mod References
mod Wraps

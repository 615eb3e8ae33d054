mod Acting
pub mod Passing

mod Parting
mod Flattening
pub mod Touching
pub mod LastCopy
pub mod Copying
mod Beside
mod ScalarLaws
pub mod WholeNest
pub mod Numbering
mod Reducing
pub mod Acting
mod ActNumbers
mod Outcomes
mod Observing
mod Following
mod Examples
mod ExampleScalars

pub mod Sections
pub mod Sums
pub mod StraightForms
pub mod Copies
pub mod References
pub mod TurnedForms
mod TurnedBounds
pub mod TurnedNames
pub mod Axes
pub mod Subscripts
pub mod Indices
pub mod Owners
pub mod CopyLayouts
pub mod Intervals
pub mod Tables

mod Arms
mod AtEntry
mod Saturated
mod Turns
pub mod SetBack
mod OwnScalars
mod AssignedParts
mod Walked
mod StateKept
mod Scanned

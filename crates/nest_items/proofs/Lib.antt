pub mod Values
pub mod Storing
pub mod SameStates
pub mod Turns
pub mod Blocks
mod Tuples
pub mod Nests
pub mod IndexFits
pub mod FormStands
pub mod NameKinds
pub mod EntryAlike

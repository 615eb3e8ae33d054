pub mod OwnedSequence
pub mod GapTable
pub mod Sizes
pub mod Sections
pub mod Residues

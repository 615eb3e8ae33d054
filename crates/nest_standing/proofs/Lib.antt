mod Ruled
mod PlacesOf
mod Exprs
mod Assignments
mod Bodies
mod Kept
mod Texts
mod PathsOf
mod Ties
mod Loops
mod Marked
mod Accepted
mod Operators
mod Gathers
mod Whole
pub mod Programs
mod Ranks
mod DistinctNames
mod ConstantSteps
pub use Rattle.well_formed.proofs.Programs as ValidPrograms

mod AlignmentParts
mod Joined
mod Orders
mod PairReasons
mod TargetLists
mod PairTurns
mod EntryForms
mod Quotients
pub mod AlignedLaws
pub mod InsideTargets
pub mod MovingDims
pub mod PlacedTargets

pub mod NestRuns
mod OneKind
mod Layouts
pub mod Listed
mod TextTerms
mod FreeIndices
pub mod PlainCode
mod CodedTexts
pub mod CodedBody
pub mod NestAnchors
mod ManyActs
mod Standing
mod Counted
pub mod Begun
pub mod Entered
pub mod CodeLies
pub mod Starts
mod SteadyRows
mod Passing
mod LoopPasses
mod NestPasses
mod NestTrails
pub mod StatementsEnds
pub mod StatementsRuns
mod IndexValues
mod NestLoops
mod EmptyNests
mod SettledNests
mod LoopBounds
mod LoopTrips
mod IndexCode
mod NestPieces
pub mod NestGoes
pub use Rattle.nest_join.proofs.Names as JoinedNames
pub use Rattle.nest_join.proofs.Counting

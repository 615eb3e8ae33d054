mod Folds
mod KnownTables
mod KnownValues
mod NamedEntries
mod NestSteps
mod Placings
mod ProgramBreaches
mod Reasons
mod Repeats
mod Scalars
pub mod Tests
pub mod TypedOperands
pub mod TableItems
pub use Rattle.expression_rules.proofs.Lists

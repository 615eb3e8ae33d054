pub mod Named
pub mod KeptNests
pub use Rattle.well_formed.specs.Lowered
pub use Rattle.well_formed.specs.StatementCode
pub use Rattle.well_formed.specs.Ranks

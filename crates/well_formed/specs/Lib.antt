pub use Rattle.lowering.specs.Lowered
pub use Rattle.program_code.specs.StatementCode
pub use Rattle.lowering.specs.Ranks

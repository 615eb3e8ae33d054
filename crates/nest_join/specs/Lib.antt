pub mod NestNames
pub mod NestTexts
pub mod CodedBlocks
pub mod MachineState
pub mod NestRuns
pub use Rattle.nest_parts.specs.NestParts
pub use Rattle.nest_texts.specs.NestBodies
pub use Rattle.nest_texts.specs.NestLoops

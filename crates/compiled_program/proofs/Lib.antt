mod Entries
mod Numbering
mod Layouts
mod ProgramOpenings
pub mod Accepted
mod CodeFits
mod MovesFit
mod ProgramFits
pub use Rattle.nodes_lowered.proofs.Laid
pub use Rattle.nodes_lowered.proofs.StartLaid
pub use Rattle.nodes_lowered.proofs.Tables
pub use Rattle.nodes_lowered.proofs.Programs as StandingPrograms
pub use Rattle.nodes_lowered.proofs.ValidPrograms

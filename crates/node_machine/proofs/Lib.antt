mod ExchangeLaws
mod FetchLaws
mod FirstPieces
mod Instructions
mod LastLaws
mod LocalRuns
mod Picks
mod PostLaws
mod PrintLaws
mod RemapSteps
mod ScanSteps
mod StoredPieces
mod TreeSteps
pub use Rattle.part_steps.proofs.kept_exchanges.KeptExchanges

pub use Rattle.aligned_copies.proofs.Beside
pub use Rattle.aligned_copies.proofs.InBlocks

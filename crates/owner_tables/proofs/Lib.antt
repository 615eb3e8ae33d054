mod AlikeLaws
pub use Rattle.aligned_copies.proofs.CopyLaws
mod BesideLaws
mod ColumnLaws
mod Counting
mod Dealt
mod LeastLaws
pub mod LineLaws
pub mod Listed
pub mod Ranges
mod PositionLaws
mod RankLaws
mod Rows
mod SampleLaws
pub mod SameLayouts
pub mod Senders
mod StretchLaws
mod Strides
mod TableLaws
mod Weights

pub mod Cuts
pub mod PartLaws
pub mod BreachLaws
pub mod LineLaws
pub mod GroupLaws
pub mod ContinuationLaws
pub mod ShortLaws

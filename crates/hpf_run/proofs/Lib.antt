pub mod AcceptLaws
pub mod TopLaws
pub mod SourceForms
mod Examples

pub mod LineBreaches
pub mod Programs
pub mod SourceForms

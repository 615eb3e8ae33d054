pub mod Forms
pub mod Reading
pub mod Views
pub mod Breach

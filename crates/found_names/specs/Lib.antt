pub mod FoundNames
pub mod Scalars
pub mod Inquiries

pub mod Products
pub mod SectionLaws

pub mod OwnerLaws
pub mod ComposedLaws
pub mod Products

pub mod ElementLaws
pub mod AddressLaws
pub mod Tuples
pub mod Along
pub mod SpanLaws
pub mod OwnedLaws
pub mod TupleLaws
pub mod PieceLaws

pub mod ElementOrder
pub mod FirstBreach
pub mod Grid
pub mod Name
pub mod Refusal
pub mod Shape
pub mod Status
pub mod Text

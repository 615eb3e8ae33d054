pub mod GenBlock
pub mod Mapping
pub mod Alignment
pub mod Owner
pub mod Positions
pub mod LocalOrder

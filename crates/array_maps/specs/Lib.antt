pub mod Maps
pub mod Lines

pub mod Places
pub mod PassedLayouts
pub mod TrailMoves

pub mod Exchanges
pub mod Marks
pub mod Moves
pub mod Noted

pub mod Pairs
pub mod Covering
pub mod Fewest
mod OneLetter

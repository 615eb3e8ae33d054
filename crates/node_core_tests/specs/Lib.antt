pub mod Passer
pub mod Three

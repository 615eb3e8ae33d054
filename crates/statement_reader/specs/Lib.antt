pub mod Forms
pub mod Views
pub mod Words
pub mod FirstWords
pub mod Reading
pub mod LeftOut
pub mod Breaches
pub mod Gives

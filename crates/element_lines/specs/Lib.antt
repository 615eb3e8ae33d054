pub mod Progressions

pub mod FitLaws
mod Remapped

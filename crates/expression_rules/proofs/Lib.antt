pub mod Lists
pub mod Folds
mod Counts
mod Sizes
mod Evaluations
mod Typings
mod Referenced
mod Dummies
pub mod Turns

pub mod Fronts
pub mod Tables
pub mod Runs
pub mod TableWords
pub mod Texts
pub mod LineScan

pub mod Lists
pub mod Parted
pub mod Kinding
pub mod Verdicts

pub mod FirstClash
pub mod Visits
pub mod Scan

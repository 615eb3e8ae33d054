pub mod Anchors
pub mod Controls
pub mod Elements
pub mod KeptFaults
pub mod LocalInstructions
pub mod Operations
pub mod Sections
pub mod Tested

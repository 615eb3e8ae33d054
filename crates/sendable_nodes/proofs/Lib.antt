pub mod Expressions
pub mod Instructions
pub mod NodeSent
pub mod Programs
pub mod Statements
pub mod ThreadSafety

pub mod Names
pub mod Subexpressions
pub mod Subscripts
pub mod Forms
pub mod Axes

pub mod Exact
pub mod Found
pub mod Given
pub mod Grids
pub mod Numbers
pub mod Rules
pub mod Steps
pub mod Walks
pub mod Words
mod Examples

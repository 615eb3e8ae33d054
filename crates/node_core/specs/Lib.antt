pub mod CoreLists
pub mod CoreView
pub mod Stage

pub mod Accepted
pub mod BulkText
pub mod Command
pub mod Outcome
pub mod Reply

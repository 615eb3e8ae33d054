pub mod Beside
pub mod CopyLaws
mod Examples
pub mod InBlocks
pub mod Inside
mod Laid
pub mod Valid

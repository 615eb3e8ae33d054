pub mod Parts
pub mod MessageText
pub mod InstructionLines
pub mod Examples

pub mod ProgramText
pub mod OneMore

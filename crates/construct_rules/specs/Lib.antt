pub mod ProgramLine
pub mod Roles
pub mod NestState
pub mod Rules
pub mod Breaches
pub mod Found
pub mod OpenConstructs

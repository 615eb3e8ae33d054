pub mod ExpressionCode
pub mod NestTexts
pub mod NestInstructions
pub mod Places
pub mod NestCode
pub mod StatementCode

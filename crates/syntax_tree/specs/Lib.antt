pub mod Lexeme
pub mod Operators
pub mod Expression
pub mod Spelling
pub mod Directive
pub mod Statement
pub mod MainProgram
pub use Rattle.op_tables.specs.declared.op.Op
pub use Rattle.op_tables.specs.Arguments
pub use Rattle.op_tables.specs.Operators as OperatorValues

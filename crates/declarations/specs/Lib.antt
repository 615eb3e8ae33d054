pub mod Reasons
pub mod Declarations
pub mod DeclarationRules
pub mod Declaring

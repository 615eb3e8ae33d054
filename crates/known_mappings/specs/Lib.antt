pub mod StartMappings
pub mod NewMappings

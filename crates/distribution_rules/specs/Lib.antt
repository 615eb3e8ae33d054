pub mod Dimensions
pub mod Setting
pub mod SpaceRules
pub mod DistributionRules
pub mod Distributed
pub mod MappingOf
pub mod ProgramObjects
pub mod DistributedSteps

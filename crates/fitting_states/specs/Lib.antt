pub mod FittingStates
pub mod FitProps

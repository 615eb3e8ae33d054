mod ArrayLimits
mod ConstantLists
mod ElementTotals
mod HeldItems
mod ItemReasons
mod ItemTurns
pub mod LeastReasons

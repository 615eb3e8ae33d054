pub mod FaultJoins
pub mod FaultOrder
pub mod FirstJoins
pub mod FirstOf
pub mod LastJoins
pub mod LastOrder
pub mod Tree

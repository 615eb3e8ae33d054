pub mod FaultKeys
pub mod Optional
pub mod OptionalJoins
pub mod Passing
pub mod Places
pub mod TruthJoins

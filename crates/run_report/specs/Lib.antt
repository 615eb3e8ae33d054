pub mod TupleText
pub mod FaultLine
pub mod MapText
pub mod ArraysText

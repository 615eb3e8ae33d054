pub mod ForallStores
pub mod IndexTuples
mod Statements
mod Stores
mod StoredRows
mod StoredSections
mod TransformedColumns
mod TransformedStores
mod NamedValues
mod PrefixSums
mod PositionTuples

pub mod AlignmentValues
pub mod AlignmentRules
pub mod AlignmentEntries
pub mod TargetParts
pub mod WideEntries
pub mod AlignedEntries

pub mod StorageLemmas

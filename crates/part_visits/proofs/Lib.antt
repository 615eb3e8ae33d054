mod AxisLists
mod Counts
mod Items
mod MoreReads
mod OwningLaws
mod Sharers

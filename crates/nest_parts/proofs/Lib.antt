mod Nearness
mod Listings
mod Clashes
mod EachItem
mod Rows
mod Parallel
mod Fitting
mod MayCopies
mod Late
mod Extents
pub mod Parts
pub mod Opening
mod Example

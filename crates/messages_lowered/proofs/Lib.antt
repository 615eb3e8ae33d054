mod NamedElements
mod Anchors
mod TrailPlaces
mod MoreRows
mod NestLines
mod SameLines

mod Entries
mod HeldDims
mod AllInside
mod KeptPlaces
mod BoundsSpans
mod LineSections
mod AlongAxis
mod Classes

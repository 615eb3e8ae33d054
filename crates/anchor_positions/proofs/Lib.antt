mod Wrapped
mod Forms
mod Positions

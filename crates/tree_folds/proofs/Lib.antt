mod Carried
mod Faults
mod Numbers
mod Passing
mod Picked
mod Positions

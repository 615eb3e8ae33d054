mod Linears
mod OneToOne
mod Products
mod Subscripts
mod Wrapped

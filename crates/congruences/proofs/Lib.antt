pub mod Euclid
pub mod Solutions
pub mod Remainders
pub mod CommonMembers
pub mod Divisors
pub mod LeastStrides
pub mod Shifts
pub mod Coefficients

pub mod NestSpots
pub mod NestParts

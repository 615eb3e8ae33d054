pub mod NestTexts
pub mod NestLoops
pub mod NestBodies
pub mod NestTerms

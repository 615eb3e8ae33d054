pub mod Codes
pub mod NestCodes
pub mod Fits
pub mod Openings
pub mod PrintedLines
pub mod Programs
pub mod Results

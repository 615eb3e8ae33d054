mod Types
mod Declared
mod Heads
mod Found
mod Gives
mod Statements
mod Inquiries
mod Programs

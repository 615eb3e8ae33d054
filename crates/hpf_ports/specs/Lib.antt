pub mod Ports
pub mod Mem
pub mod Standard

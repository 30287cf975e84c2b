pub mod Finding
pub mod Running
pub mod Cycles

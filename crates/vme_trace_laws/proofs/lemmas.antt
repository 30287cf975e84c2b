pub mod Waves
pub mod Turns

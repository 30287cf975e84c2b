pub mod Orderly
pub mod Turns

pub mod Gathered
pub mod Parts

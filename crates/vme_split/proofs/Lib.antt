pub mod Parts
pub mod Bytes

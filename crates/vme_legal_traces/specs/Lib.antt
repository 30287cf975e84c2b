pub mod Samples
pub mod Kept

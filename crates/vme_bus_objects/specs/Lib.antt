pub mod Objects
pub mod Runs

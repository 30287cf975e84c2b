pub mod Names
pub mod Runs
pub mod Groups
pub mod Places
pub mod Along

pub mod History
pub mod Counters
pub mod Each

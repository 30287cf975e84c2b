pub mod Windows
pub mod Entries

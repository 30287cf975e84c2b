pub mod Entries
pub mod Lawful
pub mod Select
pub mod Table

pub mod Appending
pub mod Gathering

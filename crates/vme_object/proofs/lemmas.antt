pub mod Eachs
pub mod Histories

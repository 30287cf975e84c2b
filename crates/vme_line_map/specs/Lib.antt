pub mod Groups
pub mod Variables
pub mod Rows
pub mod Defaults
pub mod Texts
pub mod Patterns
pub mod Documents

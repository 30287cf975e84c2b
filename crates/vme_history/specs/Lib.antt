pub mod Logs
pub mod Lines
pub mod Histories
pub mod Reading
pub mod Verdicts

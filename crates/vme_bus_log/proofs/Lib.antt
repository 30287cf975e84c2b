pub mod Lines
pub mod Cutting

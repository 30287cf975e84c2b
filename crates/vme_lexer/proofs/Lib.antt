pub mod Digits
pub mod Cutting

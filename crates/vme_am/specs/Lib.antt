pub mod Spaces
pub mod Kinds
pub mod Codes
pub mod Bits

pub mod Lists
pub mod Turns
pub mod Objects
pub mod Gathered

pub mod Ends
pub mod Workers
pub mod Words

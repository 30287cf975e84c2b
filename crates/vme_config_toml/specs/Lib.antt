pub mod Answers
pub mod Values
pub mod Files
pub mod Keys

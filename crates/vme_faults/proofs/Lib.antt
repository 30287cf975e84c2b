pub mod Sites
pub mod Heads
pub mod Boards
pub mod Declared
pub mod Severities
pub mod Scripts

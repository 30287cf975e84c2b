pub mod Cycles
pub mod Bytes
pub mod Selecting
pub mod Taking
pub mod Wrongs
pub mod Running
pub mod Starting
pub mod Forgetting

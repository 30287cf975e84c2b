pub mod lemmas
pub mod Shares
pub mod Waits
pub mod Ends
pub mod Tenures
pub mod Attempted

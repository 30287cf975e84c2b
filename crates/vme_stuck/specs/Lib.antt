pub mod DeadEnds
pub mod Listed
pub mod Found
pub mod Waits
pub mod Texts

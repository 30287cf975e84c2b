pub mod Judging
pub mod Histories

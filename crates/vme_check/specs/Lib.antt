pub mod Devices
pub mod Verdicts
pub mod Answers
pub mod Requests

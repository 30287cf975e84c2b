pub mod Requests
pub mod Calls
pub mod Services
pub mod Sessions
pub mod Runs

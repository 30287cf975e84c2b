pub mod Levels
pub mod Requests
pub mod Grants
pub mod Arbitration
pub mod States
pub mod Orderly
pub mod Masters
pub mod Shares

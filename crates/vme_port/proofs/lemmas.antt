pub mod Totals
pub mod Accounts
pub mod Fresh
pub mod Performs
pub mod Shares
pub mod Places
pub mod SharedHistory
pub mod OneHistory

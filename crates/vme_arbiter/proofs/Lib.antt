pub mod lemmas
mod Orders
pub mod Grants
mod Pending
mod Listed
mod Nexts
mod Steps
mod States
pub mod Holders
mod Sets
mod Shares

pub mod Orders
pub mod Memories
pub mod Mailboxes
pub mod Replies
pub mod Logs
pub mod Verdicts
pub mod Places
pub mod Cuts

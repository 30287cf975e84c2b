pub mod Causes
pub mod Severities
pub mod Sites
pub mod Boards
pub mod Mailboxes
pub mod Lines

pub mod lemmas
pub mod Replies

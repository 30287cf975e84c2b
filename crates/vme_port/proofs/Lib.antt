pub mod lemmas
pub mod Keeps
pub mod Puts
pub mod Attempts
pub mod Opens
pub mod Settles
pub mod Gathers

pub mod Windows
mod Bytes
mod Places
mod Entries
mod Memories

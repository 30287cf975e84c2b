pub mod lemmas
mod Ands
pub mod Wide
mod Lawful
mod Blocks

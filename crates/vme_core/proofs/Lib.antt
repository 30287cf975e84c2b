pub mod lemmas
mod EventRefs
pub mod Openings

pub mod lemmas
pub mod waves
pub mod turns

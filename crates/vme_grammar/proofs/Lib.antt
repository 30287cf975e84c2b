pub mod lemmas
pub mod Heads
pub mod Words
pub mod Spelled
pub mod Forms
pub mod Known
pub mod Cases
pub mod Naming
pub mod Modifies
mod Lanes

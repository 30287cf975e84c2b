pub mod lemmas
mod Places
mod Counts
mod Openings
mod Entries
pub mod Settlements
pub mod Gathering
pub mod ProcessorPasses
pub mod Lines
pub mod Runs
pub mod Once
pub mod Taken
pub mod ReadRuns
pub mod Data
pub mod ReadLines

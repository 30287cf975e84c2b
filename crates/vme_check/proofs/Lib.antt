pub mod Verdicts
pub mod Refusals
pub mod Inputs
pub mod LineCounts

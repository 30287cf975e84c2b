pub mod Lines
pub mod Answers
pub mod Cycles
pub mod Faults
pub mod Files
pub mod CommandLines
pub mod Subcommands

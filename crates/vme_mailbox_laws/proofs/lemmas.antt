pub mod Groups
pub mod Lawful
pub mod LinesApart
pub mod OwnJobs
pub mod Shared

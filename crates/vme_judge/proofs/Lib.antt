mod Appends
mod Joins
mod Names
pub mod Samples
pub mod Printing
pub mod Saying
pub mod LogSaying
pub mod Over
pub mod Logs
pub mod Runs
pub mod Pieces
pub mod Ends
pub mod Endings
pub mod Progress
pub mod Dumps
pub mod DumpSamples
pub mod DumpRuns
pub mod DumpBytes
pub mod DumpHeaders
pub mod BlankLines
pub mod Blanks
pub mod DumpBlanks
pub mod DumpPieces
pub mod DumpWholes
pub mod DumpSaying
pub mod DumpEnds

pub mod Lists
pub mod ScriptTurns
pub mod Turns
pub mod MachineRuns
pub mod Reports
pub mod Histories

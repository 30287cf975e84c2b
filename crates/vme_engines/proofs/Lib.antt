pub mod lemmas
pub mod Texts
pub mod Data
pub mod InputFaults
pub mod CommandWords
pub mod SubcommandFaults
pub mod CommandForms

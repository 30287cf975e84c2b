pub mod Words
pub mod Fields
pub mod Entries
pub mod Faults
pub mod Texts
pub mod FaultTexts
pub mod Lines

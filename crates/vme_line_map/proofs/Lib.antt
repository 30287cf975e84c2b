pub mod StoredRows
pub mod Fitting
pub mod TextCuts
pub mod Places
pub mod LineSteps
pub mod Ranges
pub mod Naming

pub mod Calls
pub mod NextSteps
pub mod Advances
pub mod RunSteps
pub mod CountedStates

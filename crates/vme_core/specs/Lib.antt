pub mod CountedStates
pub mod Runs
pub mod Calls
pub mod NextSteps
pub mod Machines
pub mod Data
pub mod EventRefs
pub mod Advances

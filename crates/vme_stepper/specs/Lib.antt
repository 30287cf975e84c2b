pub mod Turns
pub mod Schedules
pub mod Reports
pub mod Steppers
pub mod Lines

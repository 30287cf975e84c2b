pub mod Views
pub mod Rule
pub mod Steps
pub mod Passes
pub mod Ports
pub mod Calls
pub mod Settlements

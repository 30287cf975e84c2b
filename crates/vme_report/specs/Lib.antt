pub mod Boards
pub mod Ends
pub mod Texts
pub mod Reports

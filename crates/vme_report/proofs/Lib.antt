pub mod Statuses
pub mod FirstParts
pub mod Reports

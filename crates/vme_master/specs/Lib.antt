pub mod Callers
pub mod Jobs
pub mod Tables
pub mod Machine
pub mod Events
pub mod Laws
pub mod CurrentData

pub mod Callers
pub mod Expected
pub mod Locals
pub mod ReadLengths
pub mod Stands
pub mod Tenures

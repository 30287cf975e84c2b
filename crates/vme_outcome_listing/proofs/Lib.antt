pub mod Texts
pub mod Listings
pub mod Outputs
pub mod Longs
pub mod Written
pub mod Plain
pub mod Looks
pub mod Places
pub mod Claims
pub mod Consequences
mod Parts

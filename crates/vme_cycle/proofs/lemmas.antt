pub mod Lengths
pub mod Numbers
pub mod Sums
pub mod Transfers

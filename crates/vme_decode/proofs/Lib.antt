pub mod lemmas
mod Ranges
mod Apart
mod Aligned
mod Found
mod Rows
mod Halving
mod Ranks
mod Last
mod Chosen

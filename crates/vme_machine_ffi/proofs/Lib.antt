mod Filled
mod Written

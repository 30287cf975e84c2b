mod Totals
mod Bumps

pub mod Ranges
pub mod Lines
pub mod Edges
pub mod Cells
pub mod Drawn

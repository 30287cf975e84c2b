pub mod Data
pub mod Boards
pub mod Results

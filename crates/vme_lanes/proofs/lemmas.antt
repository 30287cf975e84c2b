pub mod Placing
pub mod Tables
pub mod Wide
pub mod Words

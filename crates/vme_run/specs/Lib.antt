pub mod Orders
pub mod RunTexts

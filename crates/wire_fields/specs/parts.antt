pub mod FiveTexts
pub mod Visible

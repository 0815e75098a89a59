pub mod Labels
pub mod Last
pub mod Refusal

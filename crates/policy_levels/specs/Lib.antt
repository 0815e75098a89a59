pub mod Command
pub mod Refusal
pub mod Levels
pub mod Isolation
pub mod parts

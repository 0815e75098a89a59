pub mod Questions
pub mod Plain

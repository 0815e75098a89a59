pub mod Talk
pub mod Line
pub mod Script

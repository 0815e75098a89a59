pub mod Monitor
pub mod parts

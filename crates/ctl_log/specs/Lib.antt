pub mod Lines
pub mod Times
pub mod Wanting

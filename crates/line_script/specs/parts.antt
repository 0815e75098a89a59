pub mod Progress
pub mod Beginnings

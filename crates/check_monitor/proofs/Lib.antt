pub mod Settling
pub mod All

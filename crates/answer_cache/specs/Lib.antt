pub mod Cache
pub mod Limits
pub mod parts

pub mod Limits
pub mod AccessRun
pub mod parts

pub mod Audit
pub mod parts

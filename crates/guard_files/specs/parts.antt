pub mod Changes
pub mod Last
pub mod Prepared

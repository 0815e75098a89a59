pub mod Entries
pub mod Moments
pub mod Rule
pub mod Steps

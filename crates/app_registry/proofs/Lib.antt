pub mod Texts
pub mod Rising
pub mod Orders
pub mod Names
pub mod Filters
pub mod Counts
pub mod Search
pub mod Packages
pub mod Changes
mod Converting
pub mod Grants
mod Indexing
mod Undoing

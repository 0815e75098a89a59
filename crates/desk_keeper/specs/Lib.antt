pub mod Kept
pub mod Commit
pub mod Keeper
pub mod Keeping
pub mod parts

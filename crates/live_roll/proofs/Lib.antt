pub mod Following
pub mod Keeping
pub mod Walking
pub mod Sent

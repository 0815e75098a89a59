pub mod Told
pub mod Joining
pub mod State
pub mod Settling
pub mod Replies
pub mod Answering
pub mod Service

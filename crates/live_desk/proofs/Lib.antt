pub mod Looks
pub mod Entering
pub mod Sent

pub mod Sizes
mod Hearing
pub mod Receiving
pub mod Exchanging
pub mod Troubles
pub mod Trying

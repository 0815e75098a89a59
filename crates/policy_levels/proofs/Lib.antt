pub mod Unseen
pub mod Alone
pub mod Commanding
pub mod Listing

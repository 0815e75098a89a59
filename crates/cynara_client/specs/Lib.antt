pub mod Refusing
pub mod Reply
pub mod State
pub mod Looking
pub mod Checking
pub mod parts

pub mod States
pub mod Looking
pub mod Putting
pub mod Talking
pub mod Trying

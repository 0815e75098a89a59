pub mod Turns
pub mod Talking
pub mod Scripts
pub mod Counting
pub mod Running
pub mod Completing

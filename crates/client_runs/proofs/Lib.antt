pub mod Speaking
pub mod Counting
pub mod Ends
pub mod Completing
mod Asking

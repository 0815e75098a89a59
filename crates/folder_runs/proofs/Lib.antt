pub mod Keeping
pub mod Mounting
pub mod Completing

pub mod Lines
pub mod Recorders
pub mod Running
pub mod Completing

pub mod Obeying
pub mod Stepping
pub mod Turning
pub mod Progressing
pub mod Answering
pub mod Stopping
pub mod Finishing
pub mod Completing

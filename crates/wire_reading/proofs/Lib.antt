pub mod Loops
pub mod Rises
pub mod FrameLaws
pub mod Streams
pub mod Settling
pub mod Hearings
pub mod LentChecks

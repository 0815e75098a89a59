mod Seen
mod Naming
mod Held
mod Recalling
pub mod Using

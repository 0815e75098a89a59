pub mod Feeding
pub mod LentCheck

pub mod Alike
pub mod Matching

pub mod Keys
pub mod Hashing

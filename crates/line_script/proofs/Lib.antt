pub mod Checks
pub mod NameWords
pub mod Refusing

pub mod NameBytes
pub mod Whole

-- What only this crate's own functions cite.
pub mod Named
pub mod Packed
pub mod Short

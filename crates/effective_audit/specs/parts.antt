-- What only this crate's own functions cite.
pub mod Narrowing

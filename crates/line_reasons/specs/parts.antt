-- What only this crate's own functions cite.
pub mod Texts
pub mod Forms
pub mod Runs
pub mod Grounds
pub mod Places

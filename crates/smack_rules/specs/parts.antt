-- What only the functions of this crate cite among themselves.
pub mod Changes
pub mod Growing
pub mod Lines
pub mod Order
pub mod Pairs
pub mod Setting

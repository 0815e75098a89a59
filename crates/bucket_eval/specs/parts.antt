-- What only this crate's own functions cite.
pub mod Buckets
pub mod Deciding
pub mod Ends
pub mod Marks
pub mod Numbers
pub mod Shapes
pub mod Sheets
pub mod Slots
pub mod Stays
pub mod Windows

mod Gone
mod Marks
pub mod Hangs

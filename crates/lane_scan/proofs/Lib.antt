pub mod Masks
pub mod Numbers
pub mod RowsOf
pub mod Marking
pub mod Scanning

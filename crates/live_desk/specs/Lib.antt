pub mod History
pub mod Shown
pub mod Copies
pub mod Seat
pub mod Holding

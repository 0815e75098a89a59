pub mod Call
pub mod Tally
pub mod Told
pub mod Found
pub mod Table
pub mod ListHall
pub mod StopNews
pub mod Service

pub mod Outside
pub mod LastLine
pub mod Ending
pub mod Saying
pub mod Reading

pub mod Carried
pub mod Hearing
pub mod Ending

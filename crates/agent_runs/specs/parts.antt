pub mod Hearing
pub mod Turns
pub mod Ends
pub mod Dialling

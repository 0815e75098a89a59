pub mod Reading
pub mod Exchange
pub mod Coming
pub mod Giving
pub mod Asking
pub mod parts

pub mod Finding
pub mod Deciding
pub mod Filters
pub mod Owning
pub mod Keeping
pub mod Known
pub mod Settling
pub mod Granting
pub mod Appending
pub mod Linking
pub mod Touching
pub mod Commanding
pub mod Labelling
pub mod Laying
pub mod Expanding
mod Gaining
mod Becoming

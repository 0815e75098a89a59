pub mod Local
pub mod Progress
pub mod Finish

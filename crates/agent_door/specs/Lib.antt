pub mod Frame
pub mod Round
pub mod Serving
pub mod Complete
pub mod parts

pub mod Frame
pub mod Hearing
pub mod Lent
pub mod Stream
pub mod parts

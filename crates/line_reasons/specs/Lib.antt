pub mod FirstFault
pub mod parts

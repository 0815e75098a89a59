pub mod Block
pub mod Spots
pub mod Grammar
pub mod Turn
pub mod parts

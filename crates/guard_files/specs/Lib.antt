pub mod OwnName
pub mod ListFile
pub mod Recovery
pub mod Telling
pub mod Holding
pub mod Settled
pub mod Mounted
pub mod parts

pub mod Carrying
pub mod Places
pub mod Making
pub mod Answering
pub mod Talking
pub mod Following
pub mod Dialling
pub mod Completing

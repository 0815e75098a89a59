pub mod States
pub mod Beginning
pub mod Talking

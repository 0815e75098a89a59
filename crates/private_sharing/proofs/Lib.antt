pub mod Sound
pub mod Labelled

pub mod Window
pub mod Windows
pub mod Reading
pub mod Gathering

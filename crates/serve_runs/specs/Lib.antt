pub mod Pool
pub mod Handlers
pub mod Serving
pub mod Folder
pub mod OneList
pub mod Run
pub mod parts

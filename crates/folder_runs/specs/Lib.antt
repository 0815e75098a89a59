pub mod Mounting
pub mod Folder
pub mod LoadRun
pub mod Keeping

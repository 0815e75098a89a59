pub mod Naming
pub mod Stepping
pub mod Following
pub mod Linking
pub mod Packages

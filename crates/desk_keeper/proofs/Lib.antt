pub mod Keeping
pub mod Listable
pub mod Refusing
pub mod SetNames

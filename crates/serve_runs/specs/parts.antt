pub mod Pools
pub mod Administering

pub mod Happens
pub mod Service
pub mod Store
pub mod Worker
pub mod Caching

pub mod Limits
pub mod Holding
pub mod LastFailure
pub mod Paths
pub mod StoreNames
pub mod Untold

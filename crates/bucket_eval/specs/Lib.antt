pub mod Least
pub mod Evaluation
pub mod Depth
pub mod Cycles
pub mod Found
pub mod Root
pub mod Lent
pub mod parts

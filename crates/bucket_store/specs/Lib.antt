pub mod Bucket
pub mod Database
pub mod Order
pub mod Walk
pub mod Change
pub mod Refusal
pub mod WellFormed
pub mod parts

mod Best
pub mod Buckets
mod Lesser
mod ByShape
mod Offers
mod InTurn
mod Outside
mod Held
pub mod Places
mod Targets
mod Depth
mod Root
mod Marks
mod Tabling
mod Staying
mod Kept
mod Known
mod Settled
mod Filing
mod Growing
mod KeyOrder
mod Weighing
pub mod Decisions

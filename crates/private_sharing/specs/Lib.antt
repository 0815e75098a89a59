pub mod Shares
pub mod Refusal
pub mod Rules

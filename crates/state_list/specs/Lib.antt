pub mod Rules
pub mod Opening

pub mod Limits
pub mod DeskState
pub mod Layout
pub mod Next
pub mod Rules
pub mod History
pub mod IsDesk
pub mod parts

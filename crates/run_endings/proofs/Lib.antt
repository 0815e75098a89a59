pub mod Outcomes
pub mod Trying
pub mod LastLine
pub mod Hads
pub mod Completing

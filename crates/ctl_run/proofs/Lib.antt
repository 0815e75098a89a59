pub mod Turning
pub mod Refused

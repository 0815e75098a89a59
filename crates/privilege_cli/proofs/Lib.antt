pub mod Silent
pub mod Completing
pub mod Noting

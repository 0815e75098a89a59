pub mod Growing
pub mod Calls
pub mod Serving
pub mod Misplaced
pub mod Whole
pub mod Complete
pub mod Silent

pub mod LocalRun
pub mod parts

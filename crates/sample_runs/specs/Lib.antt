pub mod Lines
pub mod Sample
pub mod SampleRun
pub mod parts

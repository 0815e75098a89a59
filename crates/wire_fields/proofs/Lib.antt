pub mod Exact
pub mod Lengths
pub mod FieldLaws
pub mod RefusalLaws
pub mod MessageLaws
pub mod Appending
pub mod VisibleLanes

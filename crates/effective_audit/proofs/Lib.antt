pub mod Numbering
pub mod Choice
pub mod Agreeing
pub mod Beginning
pub mod Counting

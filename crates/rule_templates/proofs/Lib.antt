pub mod Expanded
pub mod Fixed
pub mod ByKind
pub mod LabelsMade
pub mod LineSpelled
pub mod ProcessesMade
pub mod Reading
pub mod TextSpelled

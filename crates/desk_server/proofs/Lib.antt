pub mod Visits
pub mod AdminStates
pub mod Watched
pub mod Forgetting
pub mod Recordings
pub mod Adding

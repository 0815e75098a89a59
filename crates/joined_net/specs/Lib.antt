pub mod Wire
pub mod DoorQueue

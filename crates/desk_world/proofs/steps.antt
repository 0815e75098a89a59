-- Each event, one step of the world.
pub mod Dialling
pub mod Asking
pub mod Sending
pub mod Answering
pub mod Delivering
pub mod Entering
pub mod Reading
pub mod Writing
pub mod Storing
pub mod Hanging
pub mod Agents

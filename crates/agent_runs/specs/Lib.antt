pub mod LinkSeen
pub mod AgentTalk
pub mod AgentRun
pub mod parts

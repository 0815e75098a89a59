mod AgentLaw
mod AdminLaw
mod ClientLaw
mod Hearing
pub mod Staging
mod Recalling

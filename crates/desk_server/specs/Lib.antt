pub mod Visit
pub mod Clients
pub mod Monitoring
pub mod Monitored
pub mod Agents
pub mod Administrators
pub mod parts

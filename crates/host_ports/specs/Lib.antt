pub mod HostFolder

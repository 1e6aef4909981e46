pub mod Connections
pub mod Exchanges
pub mod Links
pub mod Memory
pub mod Ports
pub mod Times

pub mod Adopting
pub mod Devices
pub mod Ends
pub mod Laws
pub mod Meetings
pub mod Rekeying
pub mod Servers
pub mod Sets

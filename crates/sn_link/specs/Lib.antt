pub mod Clocks
pub mod Deliveries
pub mod Holdings
pub mod Laws
pub mod Links
pub mod Losses

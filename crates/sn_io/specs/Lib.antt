pub mod Causes
pub mod FaultPlan
pub mod Memory
pub mod Streams
pub mod Seeds

pub mod Laws
pub mod Leaves
pub mod Sessions
pub mod Stale

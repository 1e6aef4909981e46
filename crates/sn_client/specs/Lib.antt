pub mod Calls
pub mod Going
pub mod Loads
pub mod Signing
pub mod Syncing

pub mod Accounts
pub mod Signing

pub mod Becomes
mod Changed
pub mod Facts
pub mod Found
mod Holders
mod ItemsBehind
mod Left
mod Refused
mod Rewrapped
mod Served
mod SessionsBehind
pub mod Stale

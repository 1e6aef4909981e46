pub mod Adopted
pub mod Joined
pub mod Laws
pub mod Lone
pub mod Retired
pub mod Sent
pub mod Served

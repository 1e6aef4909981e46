pub mod Generated
pub mod Playable
pub mod Puts

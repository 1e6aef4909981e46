pub mod Given
pub mod Messages
pub mod Texts

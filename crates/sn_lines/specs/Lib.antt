pub mod Fits
pub mod Lines
pub mod Passwords
pub mod Plain

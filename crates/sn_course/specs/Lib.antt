pub mod Stages
pub mod Fits
pub mod Headline
pub mod Laws
pub mod Lines
pub mod Settings

pub mod Asked
pub mod Resting

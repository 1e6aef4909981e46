pub mod Facts
pub mod Gates
pub mod Loads
pub mod Passing
pub mod Resting
pub mod Starts
pub mod Wholes

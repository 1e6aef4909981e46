pub mod Added
pub mod Facts
pub mod Marks
pub mod Places
pub mod Shelves
pub mod Tails

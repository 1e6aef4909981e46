pub mod Each
pub mod Kept
pub mod Laws
pub mod Lookups
pub mod Moves
pub mod Reached
pub mod Relation
pub mod Runs

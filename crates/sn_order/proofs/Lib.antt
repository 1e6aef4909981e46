pub mod Calls
pub mod Exchanged
pub mod Pieces
pub mod Plain
pub mod Resolving
pub mod Telling
pub mod Tests

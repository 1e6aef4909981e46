pub mod Records
pub mod Shelves
pub mod Stops
pub mod Undoing

pub mod Keys
pub mod Ranges
pub mod RowMaps
pub mod Steps

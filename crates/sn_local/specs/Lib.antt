pub mod Found
pub mod Index

pub mod ClientLines
pub mod Errors
pub mod Lines

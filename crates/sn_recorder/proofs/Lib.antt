pub mod Exchanging
pub mod Fating
pub mod Growing

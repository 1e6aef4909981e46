pub mod Labels
pub mod Numbers
pub mod Sets
pub mod Showing
pub mod Text

pub mod ByLabel
pub mod Closed
pub mod Drafts
pub mod Held
pub mod Laws
pub mod Lines
pub mod Rows
pub mod Shown

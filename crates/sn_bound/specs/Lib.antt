pub mod Portions
pub mod Bound
pub mod Commits
pub mod Whole

pub mod Commits
pub mod Drafts
pub mod Foreign
pub mod Laws

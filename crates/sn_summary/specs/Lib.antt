pub mod Items
pub mod Summaries
pub mod Walks

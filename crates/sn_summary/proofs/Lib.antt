pub mod DraftCounts
pub mod DraftLemmas
pub mod Lists
pub mod LiveLemmas
pub mod WalkLemmas

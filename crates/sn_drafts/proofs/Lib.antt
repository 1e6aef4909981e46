pub mod DraftLemmas
pub mod Facts
pub mod LineLemmas
pub mod LookLemmas

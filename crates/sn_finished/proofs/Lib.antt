pub mod ListLemmas
pub mod WalkLemmas
pub mod MarkedLemmas
pub mod RetiredLemmas
pub mod FinishedLemmas
pub mod HeldLemmas

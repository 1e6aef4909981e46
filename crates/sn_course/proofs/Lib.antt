pub mod CarriedLemmas
pub mod StageLemmas

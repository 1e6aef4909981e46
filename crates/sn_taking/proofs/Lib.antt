pub mod ApplyLemmas
pub mod RenamedLemmas
pub mod RetireLemmas
pub mod TakenLemmas
pub mod TakingLemmas
pub mod VersionLemmas

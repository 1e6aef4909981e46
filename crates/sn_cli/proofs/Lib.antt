pub mod Accepting
pub mod DeviceRuns
pub mod MeetsLemmas
pub mod RunLemmas
pub mod ShownLemmas
pub mod ToldLemmas

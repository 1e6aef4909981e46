pub mod SendLemmas
pub mod WaitLemmas

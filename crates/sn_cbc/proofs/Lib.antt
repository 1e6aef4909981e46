pub mod BlockLemmas
pub mod Chains
pub mod Facts
pub mod PaddingLemmas
pub mod UniqueLemmas

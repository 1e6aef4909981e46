pub mod CopyLemmas
pub mod Facts
pub mod NoteLemmas

pub mod FrontLemmas
pub mod ItemLemmas
pub mod NumberLemmas
pub mod WritingLemmas

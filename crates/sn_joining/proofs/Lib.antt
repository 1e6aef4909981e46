pub mod AccountLemmas
pub mod KeyLemmas
pub mod SetLemmas

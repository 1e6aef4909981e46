pub mod CarryLemmas
pub mod Facts
pub mod RekeyLemmas
pub mod RewrapLemmas
pub mod RowLemmas

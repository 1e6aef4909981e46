pub mod FirstItems
pub mod RekeyLemmas

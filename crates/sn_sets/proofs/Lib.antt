pub mod Facts
pub mod LaterLemmas
pub mod SealedLemmas
pub mod SetLemmas

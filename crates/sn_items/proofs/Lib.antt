pub mod Facts
pub mod ItemLawLemmas
pub mod ItemLemmas
pub mod ObjectLemmas
pub mod OpenLemmas
pub mod SealLemmas
pub mod Utf8Bytes

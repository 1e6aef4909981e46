-- The facts on which the crates above may stand, beside the laws.
pub use Rattle.sn_cbc.proofs.PaddingLemmas.{padded_injective}
pub use Rattle.sn_cbc.proofs.UniqueLemmas.{one_text, padded_bytes}

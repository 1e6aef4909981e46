-- The facts on which the crates above may stand, beside the laws.
pub use Rattle.sn_aes.proofs.Injective.{aes256_injective}
pub use Rattle.sn_aes.proofs.InverseLemmas.{append_small, length-xor_bytes, xor_bytes_cancel, xor_bytes_small}

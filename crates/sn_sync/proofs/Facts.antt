-- The facts on which the crates above may stand, beside the laws.
pub use Rattle.sn_sync.proofs.OneStamp.{one_spelling, one_stamp}
pub use Rattle.sn_sync.proofs.Padded.{length-padded}
pub use Rattle.sn_sync.proofs.TokenFacts.{length-token-le, one_token}

-- The facts on which the crates above may stand, beside the laws.
pub use Rattle.sn_rekey.proofs.RekeyLemmas.{closed_stays, open_or_not, version_stays}
pub use Rattle.sn_rekey.proofs.RowLemmas.{same_content}

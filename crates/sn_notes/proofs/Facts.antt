-- The facts on which the crates above may stand, beside the laws.
pub use Rattle.sn_notes.proofs.CopyLemmas.{copy_bound, kept_long}

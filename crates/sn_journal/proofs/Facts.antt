-- The facts on which the crates above may stand, beside the laws.
pub use Rattle.sn_journal.proofs.Wholes.{whole}

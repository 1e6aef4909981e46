-- The facts on which the crates above may stand, beside the laws.
pub use Rattle.sn_moves.proofs.Shown.{keeps_deletions, none_adopts}

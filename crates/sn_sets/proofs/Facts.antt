-- The facts on which the crates above may stand, beside the laws.
pub use Rattle.sn_sets.proofs.LaterLemmas.{later_again, later_at_once}
pub use Rattle.sn_sets.proofs.SealedLemmas.{fits_device, fits_server, opened_is_short}
pub use Rattle.sn_sets.proofs.SetLemmas.{one_held}

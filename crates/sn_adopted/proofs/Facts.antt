-- The facts on which the crates above may stand, beside the laws.
pub use Rattle.sn_adopted.proofs.Adopting.{adopt_holds, adopt_shows}
pub use Rattle.sn_adopted.proofs.Asking.{ask_shows, forget_shows, renew_shows}
pub use Rattle.sn_adopted.proofs.Reposted.{reposts_allowed, reposts_move}
pub use Rattle.sn_adopted.proofs.Reposting.{reposts_show}
pub use Rattle.sn_adopted.proofs.Retiring.{retire_shows}
pub use Rattle.sn_adopted.proofs.Staying.{stale_stays}

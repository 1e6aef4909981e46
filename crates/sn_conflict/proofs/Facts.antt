-- The facts on which the crates above may stand, beside the laws.
pub use Rattle.sn_conflict.proofs.ListLemmas.{NoneBefore, named_here, named_nowhere, none_beyond}
pub use Rattle.sn_conflict.proofs.MeetLemmas.{not_holds}

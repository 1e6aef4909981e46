-- The facts on which the crates above may stand.
pub use Rattle.sn_drafts.proofs.DraftLemmas.{put_runs}
pub use Rattle.sn_drafts.proofs.LookLemmas.{RefusesShown, of_account, of_closed, of_gone, without_account}

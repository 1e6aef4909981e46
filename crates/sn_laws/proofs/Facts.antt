-- The facts on which the crates above may stand, beside the laws.
pub use Rattle.sn_laws.proofs.AccountFrames.{Grown, Stays, account_stays, own_account_stays}
pub use Rattle.sn_laws.proofs.AccountLemmas.{Gains, accept_gains, among, free_has, more, more_sets, rewrap_gains, sealed_again}
pub use Rattle.sn_laws.proofs.ChangedLemmas.{each_changed, each_more, each_weaker, one_front}
pub use Rattle.sn_laws.proofs.DeviceFrames.{StaysDevice, device_after, device_joined, device_next, device_stays, retired}
pub use Rattle.sn_laws.proofs.DraftFrames.{draft_after, draft_edited, draft_is, draft_next, draft_same, same_draft}
pub use Rattle.sn_laws.proofs.DraftOrigins.{DraftFrom, as_was, by_edit, by_fork, by_post, by_rename, by_settle, by_unpost, draft_from}
pub use Rattle.sn_laws.proofs.EachLemmas.{and_both, at_most, below, clash, each_back, each_front, found_passes, is_at_most, is_below, is_false, none_from, none_to, not_false, number_same, one_from, or_left, or_right, same_number, same_text, text_same}
pub use Rattle.sn_laws.proofs.EditLemmas.{edits_stay}
pub use Rattle.sn_laws.proofs.FindLemmas.{find_before}
pub use Rattle.sn_laws.proofs.GreatestLemmas.{greatest_above, greatest_from, greatest_least}
pub use Rattle.sn_laws.proofs.HoldLemmas.{devices_all_hold}
pub use Rattle.sn_laws.proofs.IdentifierLemmas.{identifiers_differ, nonces_differ, one_account}
pub use Rattle.sn_laws.proofs.KeptLemmas.{keeps, keeps_step}
pub use Rattle.sn_laws.proofs.LastLemmas.{last_among, last_item, last_other, last_own}
pub use Rattle.sn_laws.proofs.NumberLemmas.{most_grows, most_held}
pub use Rattle.sn_laws.proofs.OwnerLemmas.{one_owner}
pub use Rattle.sn_laws.proofs.PostedLemmas.{posted_only_once}
pub use Rattle.sn_laws.proofs.RelatedLemmas.{allowed_from, allowed_to, one_there}
pub use Rattle.sn_laws.proofs.RunLemmas.{end_from-append, legal_after, legal_before, reached_by}
pub use Rattle.sn_laws.proofs.SetLemmas.{carries_sets, carries_two}
pub use Rattle.sn_laws.proofs.StandLemmas.{follows, stands}

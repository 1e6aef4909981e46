-- Lemmas of sn_shows that its facts don't hand on.
pub use Rattle.sn_shows.proofs.Facts.{ChangedFrom, IsPut, account_before, account_cases, account_changed, account_last, change_account, draft_is, draft_passes, each_at, find_changed, find_changed_without, find_moved, find_past_changed, find_past_without, find_without, holder_from, last_other, last_own, local_alike, more, not_of_device, not_of_item, number_within, put_holder, shows_alike, shows_of}

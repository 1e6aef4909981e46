-- The facts on which the crates above may stand.
pub use Rattle.sn_local.proofs.ChangeLemmas.{puts_columns, puts_owner}
pub use Rattle.sn_local.proofs.FoundLemmas.{rows_after-more, take_more}
pub use Rattle.sn_local.proofs.IndexLemmas.{PassedOrAhead, ahead, walk_begins, walk_ends, walk_goes_on, walk_shorter}
pub use Rattle.sn_local.proofs.ItemRows.{Rowed, are_items, local_key, local_value, row_of, same_local, same_number}
pub use Rattle.sn_local.proofs.RenewLemmas.{visible}
pub use Rattle.sn_local.proofs.Tests.{is_nothing, never, tests_same}

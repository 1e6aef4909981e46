use Rattle.sn_drafts.proofs.drafting.changes_to_delete.Goals as goal

pub delete_under-requires-clause-holds : goal.delete_under-requires-clause-holds
delete_under-requires-clause-holds g c = let holds = c.in_ok-_sets.ensures.ok in (holds.0, c.in_ok-_sets._sets, holds.1)

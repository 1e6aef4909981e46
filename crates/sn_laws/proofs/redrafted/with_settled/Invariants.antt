use Rattle.std.proofs.Common.{◌≡◌, take}
use Rattle.sn_laws.specs.Lookups.{is_draft}
use Rattle.sn_laws.specs.Moves.{changed_where, settled_at}
use Rattle.sn_laws.proofs.redrafted.with_settled.Given as goal

abbrev pub invariant-loop-draft : goal.invariant-loop-draft
invariant-loop-draft l = l.next ≡ changed_where (is_draft l.device l.uuid) (settled_at l.stamp) (take l.draft-index l.drafts)

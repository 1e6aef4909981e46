use Rattle.std.proofs.Common.{◌≡◌}
use Rattle.sn_conflict.proofs.ListLemmas.{NoneBefore}
use Rattle.sn_sync.specs.declared.item.Item.{Item}
use Rattle.sn_conflict.proofs.checking.has_uuid.Given as goal

abbrev pub invariant-loop-item : goal.invariant-loop-item
invariant-loop-item l = NoneBefore (λ (x : Item). x.uuid ≡ l.uuid) l.items l.item-index

use Rattle.std.proofs.Common.{◌≡◌}
use Rattle.sn_conflict.proofs.Facts.{NoneBefore}
use Rattle.sn_sync.specs.declared.item.Item.{Item}
use Rattle.sn_taking.proofs.taking.has_uuid.Given as goal

-- None of the versions so far has the uuid.
abbrev pub invariant-items : goal.invariant-items
invariant-items l = NoneBefore (λ (x : Item). x.uuid ≡ l.uuid) l.items l.item-index

use Rattle.sn_conflict.proofs.ListLemmas.{NoneBefore}
use Rattle.sn_conflict.specs.Checks.{Saves}
use Rattle.sn_sync.specs.declared.item.Item.{Item}
use Rattle.sn_conflict.proofs.checking.saves_one.Given as goal

abbrev pub invariant-loop-posted : goal.invariant-loop-posted
invariant-loop-posted l = NoneBefore (λ (x : Item). Saves x l.item) l.sent l.posted-index

use Rattle.sn_conflict.proofs.ListLemmas.{NoneBefore}
use Rattle.sn_conflict.specs.Checks.{IsConflictOf}
use Rattle.sn_sync.specs.declared.item.Item.{Item}
use Rattle.sn_conflict.proofs.checking.is_conflict_of_one.Given as goal

abbrev pub invariant-loop-posted : goal.invariant-loop-posted
invariant-loop-posted l = NoneBefore (λ (x : Item). IsConflictOf x l.conflict) l.sent l.posted-index

use Rattle.std.proofs.Common.{◌≡◌}
use Rattle.sn_conflict.proofs.ListLemmas.{NoneBefore}
use Rattle.sn_sync.specs.Versions.{item_of}
use Rattle.sn_sync.specs.declared.answer.Conflict.{Conflict}
use Rattle.sn_conflict.proofs.checking.has_conflict.Given as goal

abbrev pub invariant-loop-conflict : goal.invariant-loop-conflict
invariant-loop-conflict l = NoneBefore (λ (x : Conflict). (item_of x).uuid ≡ l.uuid) l.conflicts l.conflict-index

use Rattle.sn_conflict.specs.Checks.{IsConflict}
use Rattle.sn_conflict.specs.Lists.{RightBefore}
use Rattle.sn_conflict.proofs.checking.check_conflicts.Given as goal

abbrev pub invariant-loop-index : goal.invariant-loop-index
invariant-loop-index l = RightBefore (IsConflict l.sent l.saved) l.conflicts l.index

use Rattle.sn_conflict.specs.Checks.{IsSaved}
use Rattle.sn_conflict.specs.Lists.{RightBefore}
use Rattle.sn_conflict.proofs.checking.check_saved.Given as goal

abbrev pub invariant-loop-index : goal.invariant-loop-index
invariant-loop-index l = RightBefore (IsSaved l.sent) l.saved l.index

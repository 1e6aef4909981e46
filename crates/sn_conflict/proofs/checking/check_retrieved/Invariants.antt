use Rattle.sn_conflict.specs.Checks.{IsRetrieved}
use Rattle.sn_conflict.specs.Lists.{RightBefore}
use Rattle.sn_conflict.proofs.checking.check_retrieved.Given as goal

abbrev pub invariant-loop-index : goal.invariant-loop-index
invariant-loop-index l = RightBefore IsRetrieved l.retrieved l.index

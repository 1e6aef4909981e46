use Rattle.std.proofs.Common.{length}
use Rattle.sn_row_map.specs.Steps.{lent}
use Rattle.sn_account.specs.Walks.{HasStamp}
use Rattle.sn_account.proofs.StampWalk.{InStamps}
use Rattle.sn_account.proofs.WalkLemmas.{left_of}
use Rattle.sn_account.proofs.apart.stamps_differ.Given as goal

abbrev pub invariant-rows : goal.invariant-rows
invariant-rows l = InStamps l.state.rows (HasStamp l.seen) (lent l.found)

abbrev pub decreases-rows : goal.decreases-rows
decreases-rows l = length (left_of l.state.rows (lent l.found))

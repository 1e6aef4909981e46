-- The items that were walked over have their changes.
use Rattle.std.proofs.Common.{length}
use Rattle.sn_row_map.specs.Steps.{lent}
use Rattle.sn_local.proofs.Facts.{ahead}
use Rattle.sn_adopting.proofs.RekeyLemmas.{RekeyedSoFar}
use Rattle.sn_adopting.proofs.rekeying.rekeyed.Given as goal

abbrev pub invariant-items : goal.invariant-items
invariant-items l = RekeyedSoFar l.rows l.sets l.set l.fn.words l.changes l.words (lent l.found)

abbrev pub decreases-items : goal.decreases-items
decreases-items l = length (ahead l.rows (lent l.found))

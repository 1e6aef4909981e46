-- It holds of no item that was passed.
use Rattle.std.proofs.Common.{length}
use Rattle.std.specs.Prelude.{IsSome}
use Rattle.sn_row_map.specs.Steps.{lent}
use Rattle.sn_adopting.proofs.FirstItems.{NoneBefore}
use Rattle.sn_local.proofs.Facts.{ahead}
use Rattle.sn_adopting.proofs.beginning.first_sent.Given as goal

abbrev pub invariant-items : goal.invariant-items
invariant-items l = NoneBefore l.rows (λ local. IsSome local.posted) (lent l.found)

abbrev pub decreases-items : goal.decreases-items
decreases-items l = length (ahead l.rows (lent l.found))

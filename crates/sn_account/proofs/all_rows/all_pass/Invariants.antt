use Rattle.std.proofs.Common.{length}
use Rattle.sn_row_map.specs.Steps.{lent}
use Rattle.sn_account.proofs.AllRows.{InRows}
use Rattle.sn_account.proofs.WalkLemmas.{left_of}
use Rattle.sn_account.proofs.all_rows.all_pass.Given as goal

abbrev pub invariant-rows : goal.invariant-rows
invariant-rows g l = InRows (g.T.RowTest.holds l.test) l.map l.fn.kind (lent l.found)

abbrev pub decreases-rows : goal.decreases-rows
decreases-rows g l = length (left_of l.map (lent l.found))

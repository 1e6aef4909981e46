use Rattle.std.proofs.Common.{length}
use Rattle.sn_row_map.specs.Steps.{lent}
use Rattle.sn_account.proofs.SearchLemmas.{InSearch}
use Rattle.sn_account.proofs.WalkLemmas.{left_of}
use Rattle.sn_account.proofs.passwords.least_behind.Given as goal

abbrev pub invariant-rows : goal.invariant-rows
invariant-rows l = InSearch l.state.rows l.number l.present (lent l.found)

abbrev pub decreases-rows : goal.decreases-rows
decreases-rows l = length (left_of l.state.rows (lent l.found))

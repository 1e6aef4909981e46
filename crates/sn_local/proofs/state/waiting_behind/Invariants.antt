-- Each item behind that waits has the number that was found, or one behind it.
use Rattle.sn_row_map.specs.RowMaps.{row_in}
use Rattle.sn_local.proofs.StateLemmas.{AreAhead, numbers_left}
use Rattle.sn_local.proofs.state.waiting_behind.Given as goal

abbrev pub invariant-numbers : goal.invariant-numbers
invariant-numbers l = AreAhead (row_in l.rows) l.fn.behind l.next

abbrev pub decreases-numbers : goal.decreases-numbers
decreases-numbers l = numbers_left l.next

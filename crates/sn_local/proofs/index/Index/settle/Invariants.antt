use Rattle.sn_row_map.specs.RowMaps.{row_in}
use Rattle.sn_local.specs.Index.{Indexes}
use Rattle.sn_local.proofs.index.Index.settle.Given as goal

abbrev pub invariant-numbers : goal.invariant-numbers
invariant-numbers l = Indexes l.fn.self (row_in l.rows) → Indexes l.self (row_in l.rows)

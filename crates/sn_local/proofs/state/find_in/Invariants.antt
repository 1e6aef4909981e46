-- No item of the numbers so far has the uuid.
use Rattle.sn_row_map.specs.RowMaps.{row_in}
use Rattle.sn_local.proofs.StateLemmas.{NoneBefore}
use Rattle.sn_local.proofs.state.find_in.Given as goal

abbrev pub invariant-numbers : goal.invariant-numbers
invariant-numbers l = NoneBefore (row_in l.rows) l.uuid l.number-items l.number-index

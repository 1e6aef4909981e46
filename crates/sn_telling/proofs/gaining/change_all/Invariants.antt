use Rattle.std.proofs.Common.{◌≡◌}
use Rattle.sn_row_map.specs.RowMaps.{row_in}
use Rattle.sn_telling.specs.Walking.{rows_behind_all}
use Rattle.sn_telling.proofs.gaining.change_all.Given as goal

abbrev pub invariant-batches : goal.invariant-batches
invariant-batches l = row_in l.rows ≡ rows_behind_all (row_in l.fn.rows) l.yielded

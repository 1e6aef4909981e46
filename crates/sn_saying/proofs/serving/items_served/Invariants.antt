-- The rows behind the changes so far, and what these say where each item of an account with one set is what the device has sent.
use Rattle.std.proofs.Common.{◌≡◌}
use Rattle.sn_row_map.specs.RowMaps.{row_in}
use Rattle.sn_rows.specs.Table.{rows_after}
use Rattle.sn_saying.proofs.ServedLemmas.{SaysLone}
use Rattle.sn_saying.proofs.serving.items_served.Given as goal

abbrev pub invariant-changes : goal.invariant-changes
invariant-changes l = record {
  rows : row_in l.server ≡ rows_after (row_in l.fn.server) l.yielded;
  said : SaysLone (row_in l.fn.server) (row_in l.device) l.name l.yielded l.moves;
}

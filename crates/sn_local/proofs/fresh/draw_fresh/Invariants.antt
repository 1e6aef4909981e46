use Rattle.std.proofs.Common.{◌≤◌, ◌-◌}
use Rattle.sn_row_map.specs.RowMaps.{row_in}
use Rattle.sn_rows.specs.Table.{rows_after}
use Rattle.sn_local.proofs.DrawLemmas.{HasDrawn}
use Rattle.sn_local.proofs.fresh.draw_fresh.Given as goal

-- Items have all uuids that were drawn before the last, and there is room for that.
abbrev pub invariant-draws : goal.invariant-draws
invariant-draws l = record {
  drew : HasDrawn (rows_after (row_in l.fn.rows) l.fn.changes) l.fn.words l.drawn l.draws l.words;
  few : l.draws ≤ 16;
}

abbrev pub decreases-draws : goal.decreases-draws
decreases-draws l = 16 - l.draws

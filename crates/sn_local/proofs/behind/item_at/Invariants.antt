use Rattle.sn_row_map.specs.RowMaps.{row_in}
use Rattle.sn_rows.specs.Table.{rows_after}
use Rattle.sn_local.proofs.FoundLemmas.{AreGone}
use Rattle.sn_local.proofs.behind.item_at.Given as goal

-- None of the changes so far puts an item of the uuid that still has it.
abbrev pub invariant-changes : goal.invariant-changes
invariant-changes l = AreGone (rows_after (row_in l.rows) l.changes) l.uuid l.changes l.change-index

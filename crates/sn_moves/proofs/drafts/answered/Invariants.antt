use Rattle.std.proofs.Common.{◌≡◌, ◌++◌, None, drop, take}
use Rattle.sn_row_map.specs.RowMaps.{row_in}
use Rattle.sn_rows.specs.Table.{rows_after}
use Rattle.sn_moves.specs.Drafts.{answered}
use Rattle.sn_moves.proofs.drafts.answered.Given as goal

abbrev pub invariant-changes : goal.invariant-changes
invariant-changes l = l.moves ++ answered l.name l.foreign l.copy (rows_after (row_in l.rows) (take l.place l.changes)) (drop l.place l.changes)
    ≡ answered l.name l.foreign None (row_in l.rows) l.changes

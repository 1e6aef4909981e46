use Rattle.std.proofs.Common.{◌≡◌, take}
use Rattle.std.specs.Option.{option_copied}
use Rattle.sn_row_map.specs.RowMaps.{row_in}
use Rattle.sn_rows.specs.Table.{rows_after}
use Rattle.sn_moves.proofs.drafts.row_behind.Given as goal

abbrev pub invariant-changes : goal.invariant-changes
invariant-changes l = option_copied l.found ≡ rows_after (row_in l.rows) (take l.change-index l.changes) l.key

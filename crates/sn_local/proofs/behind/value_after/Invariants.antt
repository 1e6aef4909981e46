use Rattle.std.proofs.Common.{◌≡◌, take}
use Rattle.std.specs.Option.{option_copied}
use Rattle.sn_row_map.specs.RowMaps.{row_in}
use Rattle.sn_rows.specs.Table.{row_after}
use Rattle.sn_local.proofs.behind.value_after.Given as goal

-- The row behind the changes so far is found.
abbrev pub invariant-changes : goal.invariant-changes
invariant-changes l = option_copied l.found ≡ row_after (row_in l.rows l.key) l.key (take l.change-index l.changes)

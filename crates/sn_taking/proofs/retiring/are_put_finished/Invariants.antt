use Rattle.std.proofs.Common.{ℕ, ◌<◌}
use Rattle.std.specs.List.{HoldsAt}
use Rattle.sn_row_map.specs.RowMaps.{row_in}
use Rattle.sn_rows.specs.Table.{key_of, rows_after}
use Rattle.sn_rows.specs.declared.change.Change.{Change}
use Rattle.sn_device.specs.Steps.{IsFinishedAt}
use Rattle.sn_taking.proofs.retiring.are_put_finished.Given as goal

-- The items of the keys so far have nothing of the set.
abbrev pub invariant-changes : goal.invariant-changes
invariant-changes l =
    (k : ℕ) → k < l.change-index → HoldsAt (λ (c : Change). IsFinishedAt (rows_after (row_in l.rows) l.changes) l.set (key_of c)) l.changes k

-- The items so far have nothing of the set.
use Rattle.std.proofs.Common.{length}
use Rattle.sn_row_map.specs.RowMaps.{row_in}
use Rattle.sn_row_map.specs.Steps.{lent}
use Rattle.sn_rows.specs.Table.{rows_after}
use Rattle.sn_rows.specs.declared.kind.RowKind.TheVariants as kind
use Rattle.sn_device.specs.Steps.{IsFinishedAt}
use Rattle.sn_local.proofs.Facts.{PassedOrAhead, ahead}
use Rattle.sn_taking.proofs.retiring.are_kept_finished.Given as goal

abbrev pub invariant-items : goal.invariant-items
invariant-items l = PassedOrAhead (λ k v. IsFinishedAt (rows_after (row_in l.rows) l.changes) l.set k) l.rows kind.Local (lent l.found)

abbrev pub decreases-items : goal.decreases-items
decreases-items l = length (ahead l.rows (lent l.found))

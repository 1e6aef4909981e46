-- The items of the rows so far have their places there.
use Rattle.std.proofs.Common.{length}
use Rattle.sn_row_map.specs.Steps.{lent}
use Rattle.sn_rows.specs.declared.kind.RowKind.TheVariants as kind
use Rattle.sn_account.specs.Places.{PlacesRow}
use Rattle.sn_account.proofs.AllRows.{InRows}
use Rattle.sn_account.proofs.WalkLemmas.{left_of}
use Rattle.sn_account.proofs.places.Places.of_rows.Given as goal

abbrev pub invariant-items : goal.invariant-items
invariant-items l = InRows (PlacesRow l.places) l.rows kind.Item (lent l.found)

abbrev pub decreases-items : goal.decreases-items
decreases-items l = length (left_of l.rows (lent l.found))

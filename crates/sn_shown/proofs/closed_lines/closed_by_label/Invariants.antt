-- The lines of the rows so far are there.
use Rattle.std.proofs.Common.{ℕ, length, Option}
use Rattle.sn_laws.specs.Lookups.{Bytes}
use Rattle.sn_row_map.specs.RowMaps.{row_in}
use Rattle.sn_row_map.specs.Steps.{lent}
use Rattle.sn_shown.specs.Closed.{ShowsClosed}
use Rattle.sn_shown.proofs.ClosedGathered.{closed_of}
use Rattle.sn_shown.proofs.LinesGathered.{IsGathered}
use Rattle.sn_shown.proofs.WalkLemmas.{ahead}
use Rattle.sn_shown.proofs.closed_lines.closed_by_label.Given as goal

abbrev pub invariant-items : goal.invariant-items
invariant-items l = (closed : Bytes → Option ℕ) → ShowsClosed (row_in l.rows) l.numbers l.holding closed
    → IsGathered l.rows l.labels (closed_of l.labels l.name closed) l.by_label (lent l.found)

abbrev pub decreases-items : goal.decreases-items
decreases-items l = length (ahead l.rows (lent l.found))

-- The lines so far are of the items that were walked over.
use Rattle.std.proofs.Common.{length}
use Rattle.sn_row_map.specs.Steps.{lent}
use Rattle.sn_local.proofs.Facts.{ahead}
use Rattle.sn_drafts.proofs.LineLemmas.{ListedSoFar}
use Rattle.sn_drafts.proofs.lines.lines_of.Given as goal

abbrev pub invariant-items : goal.invariant-items
invariant-items l = ListedSoFar l.rows l.sets l.lines (lent l.found)

abbrev pub decreases-items : goal.decreases-items
decreases-items l = length (ahead l.rows (lent l.found))

-- The lines of the rows so far are there.
use Rattle.std.proofs.Common.{length}
use Rattle.sn_laws.specs.declared.ideal.Ideal.{Ideal}
use Rattle.sn_row_map.specs.RowMaps.{row_in}
use Rattle.sn_row_map.specs.Steps.{lent}
use Rattle.sn_shown.specs.Drafts.{ShowsDrafts}
use Rattle.sn_shown.proofs.DraftsGathered.{draft_of}
use Rattle.sn_shown.proofs.LinesGathered.{IsGathered}
use Rattle.sn_shown.proofs.WalkLemmas.{ahead}
use Rattle.sn_shown.proofs.draft_lines.drafts_by_label.Given as goal

abbrev pub invariant-items : goal.invariant-items
invariant-items l = (s : Ideal) → ShowsDrafts (row_in l.rows) l.set s l.name → IsGathered l.rows l.labels (draft_of l.labels s l.name) l.drafts (lent l.found)

abbrev pub decreases-items : goal.decreases-items
decreases-items l = length (ahead l.rows (lent l.found))

-- Each item of the rows stands there, or is still ahead.
use Rattle.std.proofs.Common.{length}
use Rattle.sn_row_map.specs.Steps.{lent}
use Rattle.sn_rows.specs.declared.kind.RowKind.TheVariants as kind
use Rattle.sn_local.specs.Index.{IndexesRow}
use Rattle.sn_local.proofs.IndexLemmas.{PassedOrAhead, ahead}
use Rattle.sn_local.proofs.index.Index.of_rows.Given as goal

abbrev pub invariant-items : goal.invariant-items
invariant-items l = PassedOrAhead (IndexesRow l.index) l.rows kind.Local (lent l.found)

abbrev pub decreases-items : goal.decreases-items
decreases-items l = length (ahead l.rows (lent l.found))

use Rattle.std.proofs.Common.{subst, sym}
use Rattle.sn_row_map.specs.RowMaps.{row_in}
use Rattle.sn_row_map.specs.declared.row_map.RowMap.{RowMap}
use Rattle.sn_local.specs.Index.{Indexes}
use Rattle.sn_local.proofs.state.find.Goals as goal

pub find_in-requires-clause-indexed : goal.find_in-requires-clause-indexed
find_in-requires-clause-indexed g c =
    subst (λ (m : RowMap). Indexes c.args.index.now (row_in m)) (sym c.rows.ensures.rows) c.requires.indexed

use Rattle.std.proofs.Common.{subst, sym}
use Rattle.sn_row_map.specs.RowMaps.{row_in}
use Rattle.sn_row_map.specs.declared.row_map.RowMap.{RowMap}
use Rattle.sn_local.specs.Index.{Indexes}
use Rattle.sn_local.proofs.state.next_waiting.Goals as goal

pub next_waiting_in-requires : goal.next_waiting_in-requires
next_waiting_in-requires g c = record {
  indexed = subst (λ (m : RowMap). Indexes c.args.index.now (row_in m)) (sym c.rows.ensures.rows) c.requires.indexed;
}

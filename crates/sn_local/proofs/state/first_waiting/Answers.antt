use Rattle.std.proofs.Common.{IfNone, subst, sym}
use Rattle.sn_row_map.specs.RowMaps.{row_in}
use Rattle.sn_row_map.specs.declared.row_map.RowMap.{RowMap}
use Rattle.sn_local.specs.Index.{Indexes}
use Rattle.sn_device.specs.Sending.{NoneWaits}
use Rattle.sn_local.proofs.state.first_waiting.Goals as goal

pub first_waiting_in-requires : goal.first_waiting_in-requires
first_waiting_in-requires g c = record {
  indexed = subst (λ (m : RowMap). Indexes c.args.index.now (row_in m)) (sym c.rows.ensures.rows) c.requires.indexed;
}

pub returns-clause-none : goal.returns-clause-none
returns-clause-none g c =
    subst (λ (m : RowMap). IfNone c.first_waiting_in.result (NoneWaits (row_in m))) c.rows.ensures.rows c.first_waiting_in.ensures.none

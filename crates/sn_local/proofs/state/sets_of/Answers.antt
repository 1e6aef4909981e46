use Rattle.std.proofs.Common.{IfOk, IfSome, subst}
use Rattle.sn_row_map.specs.RowMaps.{row_in}
use Rattle.sn_row_map.specs.declared.row_map.RowMap.{RowMap}
use Rattle.sn_rows.specs.declared.device_rows.OwnerRow.{OwnerRow}
use Rattle.sn_device.specs.States.{HasSets}
use Rattle.sn_local.proofs.state.sets_of.Goals as goal

pub returns-clause-some : goal.returns-clause-some
returns-clause-some g c =
    subst (λ (m : RowMap). IfOk c.sets_in.result (λ found. IfSome found (λ sets. (owner : OwnerRow) × HasSets (row_in m) owner sets)))
    c.rows.ensures.rows c.sets_in.ensures.some

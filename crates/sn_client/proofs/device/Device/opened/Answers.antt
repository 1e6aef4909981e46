use Rattle.std.specs.Prelude.{Option, None, Some}
use Rattle.std.proofs.Common.{sym, subst}
use Rattle.sn_journal.specs.declared.owner.Owner.TheVariants.{Device as DeviceOwner}
use Rattle.sn_row_map.specs.RowMaps.{row_in}
use Rattle.sn_row_map.specs.declared.row_map.RowMap.{RowMap}
use Rattle.sn_rows.specs.declared.kind.RowKind.{RowKind}
use Rattle.sn_table.specs.Logs.{HasOwned}
use Rattle.sn_local.specs.Index.{Indexes}
use Rattle.sn_device.specs.States.{IsFirstUnsound}
use Rattle.sn_client.proofs.device.Device.opened.Goals as goal

pub first_unsound-requires : goal.first_unsound-requires
first_unsound-requires g c = record {
  device = record {
    own = subst (λ (m : RowMap). HasOwned DeviceOwner m) (sym c.rows-rows.ensures.rows) c.requires.owned;
    kinds = c.rows-rows.ensures.kinds;
  };
}

pub invariant_of-result : goal.invariant_of-result
invariant_of-result g c = record {
  owner = c.requires.owner;
  indexed = subst (λ (m : RowMap). Indexes c.in-Ok.index (row_in m)) c.rows-rows.ensures.rows c.in-Ok.ensures;
}

pub returns-in-Ok-None-clause-sound : goal.returns-in-Ok-None-clause-sound
returns-in-Ok-None-clause-sound g c =
    subst (λ (m : RowMap). IsFirstUnsound (row_in m) None) c.rows-rows.ensures.rows
    (subst (λ (o : Option RowKind). IsFirstUnsound (row_in c.rows-rows.result.now) o) c.in-Ok-None.field-0-is c.in-Ok-None.ensures)

pub returns-in-Ok-Some-clause-refused : goal.returns-in-Ok-Some-clause-refused
returns-in-Ok-Some-clause-refused g c =
    subst (λ (m : RowMap). IsFirstUnsound (row_in m) (Some c.in-Ok-Some.kind)) c.rows-rows.ensures.rows
    (subst (λ (o : Option RowKind). IsFirstUnsound (row_in c.rows-rows.result.now) o) c.in-Ok-Some.field-0-is c.in-Ok-Some.ensures)

use Rattle.std.proofs.Common.{ap, subst, sym, ◌∙◌}
use Rattle.sn_row_map.specs.RowMaps.{row_in}
use Rattle.sn_row_map.specs.declared.row_map.RowMap.{RowMap}
use Rattle.sn_rows.specs.declared.device_rows.OwnerRow.{OwnerRow}
use Rattle.sn_client.specs.Calls.{device_rows}
use Rattle.sn_device.specs.States.{HasSets}
use Rattle.sn_client.proofs.AnswerLemmas.{held_by}
use Rattle.sn_device.proofs.Facts.{one_owner}
use Rattle.sn_client.proofs.device.Device.adoption.Goals as goal

pub adopting-requires-clause-holds : goal.adopting-requires-clause-holds
adopting-requires-clause-holds g c =
    let held = rw c.in-Some-2.is at c.in_ok-sets.ensures.some in
    subst (λ (m : RowMap). HasSets (row_in m) c.in-Some.account.now c.in-Some-2.sets) (sym c.rows.ensures.rows)
    (held_by (device_rows c.args.self.now) held.0 c.in-Some.account.now c.in-Some-2.sets held.1 c.in-Some.ensures.some)

pub adopting-requires-clause-named : goal.adopting-requires-clause-named
adopting-requires-clause-named g c =
    c.requires.owned.2
    ∙ ap (λ (o : OwnerRow). o.identifier)
    (one_owner (device_rows c.args.self.now) c.requires.owned.0 c.in-Some.account.now c.requires.owned.1 c.in-Some.ensures.some)

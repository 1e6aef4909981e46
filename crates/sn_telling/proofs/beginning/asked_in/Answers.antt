use Rattle.std.proofs.Common.{Some, ap, sym, ◌∙◌}
use Rattle.sn_device.specs.States.{HasOwner, HasSet}
use Rattle.sn_row_map.specs.RowMaps.{row_in}
use Rattle.sn_rows.specs.declared.device_rows.OwnerRow.{OwnerRow}
use Rattle.sn_rows.specs.declared.device_rows.SetRow.{SetRow}
use Rattle.sn_rows.specs.declared.key.Slot.TheVariants.{Asked}
use Rattle.sn_rows.specs.declared.value.Value.{Value}
use Rattle.sn_rows.specs.declared.value.Value.TheVariants as value
use Rattle.sn_telling.proofs.ReadAsked.{asked_is}
use Rattle.sn_telling.proofs.beginning.asked_in.Goals as goal

pub returns : goal.returns
returns c = λ set asked.
    let has : HasOwner (row_in c.args.rows.now) c.get-3.result.now =
    sym c.in-Some-Owner.ensures ∙ ap (λ (v : Value). Some v) (c.in-Some-Owner.field-0-is ∙ ap (λ (o : OwnerRow). value.Owner o) (sym c.get-3.ensures)) in
    let stands : HasSet (row_in c.args.rows.now) Asked c.get-4.result.now =
    sym c.in-Some-Set.ensures ∙ ap (λ (v : Value). Some v) (c.in-Some-Set.field-0-is ∙ ap (λ (s : SetRow). value.Set s) (sym c.get-4.ensures)) in
    asked_is (row_in c.args.rows.now) c.get-3.result.now c.get-4.result.now c.in_ok-set.set set has stands c.in_ok-set.ensures asked

use Rattle.std.proofs.Common.{◌≡◌, Some, rules}
use Rattle.sn_rows.specs.declared.body.RowBody.TheVariants as row
use Rattle.sn_rekey.proofs.CarryLemmas.{sealed_carries}
use Rattle.sn_rekey.proofs.carrying.carries_set.Goals as goal

pub returns-in-Some-Sealed : goal.returns-in-Some-Sealed
returns-in-Some-Sealed c =
    let is : c.args.place.now ≡ Some (row.Sealed c.in-Some-Sealed.strings) = search rules in
    sealed_carries c.args.set.now c.args.place.now c.in-Some-Sealed.strings c.carry.result is c.carry.ensures

-- A device's rows keep one set as asked for at most.
use Rattle.std.proofs.Common.{◌≡◌, Some, sym, ap, ◌∙◌, subst}
use Rattle.sn_device.specs.States.{HasOwner, HasSet, IsSetOf}
use Rattle.sn_rows.specs.Table.{Rows}
use Rattle.sn_rows.specs.declared.device_rows.OwnerRow.{OwnerRow}
use Rattle.sn_rows.specs.declared.device_rows.SetRow.{SetRow}
use Rattle.sn_rows.specs.declared.key.Slot.TheVariants.{Asked}
use Rattle.sn_string.proofs.Facts.{same_keys}
use Rattle.sn_string.specs.declared.params.KeySet.{KeySet}
use Rattle.sn_world.specs.Calls.{IsAskedFor}

one_owner : (rows : Rows) (a b : OwnerRow) → HasOwner rows a → HasOwner rows b → a ≡ b
one_owner rows a b x y = cc

one_row : (rows : Rows) (a b : SetRow) → HasSet rows Asked a → HasSet rows Asked b → a ≡ b
one_row rows a b x y = cc

pub asked_is : (rows : Rows) (owner : OwnerRow) (keys : SetRow) (found set : KeySet) → HasOwner rows owner → HasSet rows Asked keys
    → IsSetOf owner.identifier keys found → IsAskedFor rows set → Some found ≡ Some set
asked_is rows owner keys found set has stands of (other, too, (others, there, is)) =
    let named : owner.identifier ≡ other.identifier = ap (λ (o : OwnerRow). o.identifier) (one_owner rows owner other has too) in
    let so : IsSetOf owner.identifier others found = subst (λ (k : SetRow). IsSetOf owner.identifier k found) (one_row rows keys others stands there) of in
    ap Some (same_keys found set (so.identifier_is ∙ named ∙ sym is.identifier_is) (so.cost ∙ sym is.cost) (so.nonce ∙ sym is.nonce) (so.pw ∙ sym is.pw)
    (so.mk ∙ sym is.mk) (so.ak ∙ sym is.ak))

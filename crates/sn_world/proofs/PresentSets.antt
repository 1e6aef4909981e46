-- Where no set is asked for, a device's sets have none.
use Rattle.std.proofs.Common.{◌≡◌, Option, Some, None, refl}
use Rattle.sn_device.specs.States.{Bytes, HasSets, IsInSlot}
use Rattle.sn_rows.specs.Table.{Rows}
use Rattle.sn_rows.specs.declared.device_rows.OwnerRow.{OwnerRow}
use Rattle.sn_rows.specs.declared.key.Key.TheVariants as key
use Rattle.sn_rows.specs.declared.key.Slot.{Slot}
use Rattle.sn_rows.specs.declared.key.Slot.TheVariants.{Asked}
use Rattle.sn_sets.specs.declared.sets.Sets.{Sets}
use Rattle.sn_string.specs.declared.params.KeySet.{KeySet}
use Rattle.sn_world.specs.Plain.{AsksNoSet}

-- a slot without a row has no set
pub none_in : (rows : Rows) (identifier : Bytes) (slot : Slot) (found : Option KeySet) → rows (key.Set slot) ≡ None → IsInSlot rows identifier slot found
    → found ≡ None
none_in rows identifier slot None none is = refl
none_in rows identifier slot (Some set) none (keys, has, of) = absurd (cc)

pub unasked : (rows : Rows) (owner : OwnerRow) (sets : Sets) → AsksNoSet rows → HasSets rows owner sets → sets.asked ≡ None
unasked rows owner sets none holds = none_in rows owner.identifier Asked sets.asked none holds.wanted

-- Which set the versions of a device's row are sealed under.
use Rattle.std.specs.Prelude.{◌≡◌, ◌⊎◌, Option, Some, None, true}
use Rattle.sn_items.specs.Items.{Carries}
use Rattle.sn_rows.specs.declared.body.RowBody.{RowBody}
use Rattle.sn_rows.specs.declared.body.RowBody.TheVariants as row
use Rattle.sn_rows.specs.declared.device_rows.LocalItem.{LocalItem}
use Rattle.sn_sets.specs.Sets.{sealed_of}
use Rattle.sn_string.specs.declared.params.KeySet.{KeySet}

-- a version that carries the set's parameters
abbrev pub CarriesSet : KeySet → Option RowBody → Type 0
CarriesSet set None = ⊥
CarriesSet set (Some row.Deleted) = ⊥
CarriesSet set (Some (row.Sealed strings)) = Carries (sealed_of strings) set.params

-- the item has nothing of the set, and is to be sent to no server under other keys
pub record IsFinished (set : KeySet) (local : LocalItem) : Type 0 where
  pub current : ¬ (local.stale ≡ true)
  pub body : ¬ (CarriesSet set local.body)
  pub latest : ¬ (CarriesSet set local.latest)
  pub posted : ¬ (CarriesSet set local.posted)

-- a sealed version that carries other parameters than the set's, or none; a deletion is of no set
abbrev pub CarriesOther : KeySet → Option RowBody → Type 0
CarriesOther set None = ⊥
CarriesOther set (Some row.Deleted) = ⊥
CarriesOther set (Some (row.Sealed strings)) = ¬ (Carries (sealed_of strings) set.params)

-- the item has a version of another set than the present one
abbrev pub IsOfOther : KeySet → LocalItem → Type 0
IsOfOther present local = CarriesOther present local.body ⊎ CarriesOther present local.latest ⊎ CarriesOther present local.posted

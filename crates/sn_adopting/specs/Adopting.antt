-- What the walk over a device's items adds for one of them at an adoption.
use Rattle.std.specs.Prelude.{◌≡◌, ◌++◌, ◌∷◌, [], ℕ, List, All}
use Rattle.rand_chacha.specs.ChaCha.{ChaCha}
use Rattle.sn_journal.specs.declared.owner.Owner.TheVariants.{Device}
use Rattle.sn_rows.specs.declared.change.Change.{Change}
use Rattle.sn_rows.specs.declared.device_rows.LocalItem.{LocalItem}
use Rattle.sn_rows.specs.declared.key.Key.{Key}
use Rattle.sn_rows.specs.declared.value.Value.{Value}
use Rattle.sn_sets.specs.declared.sets.Sets.{Sets}
use Rattle.sn_string.specs.declared.params.KeySet.{KeySet}
use Rattle.sn_table.specs.Batches.{IsOf}
use Rattle.sn_device.specs.Changing.{RekeysAll}
use Rattle.sn_local.specs.Found.{IsItemRow}

-- behind the old changes stands that of the item, where a version of it opens, and nothing else
pub record RekeysOne (sets : Sets) (set : KeySet) (words : ChaCha) (number : ℕ) (local : LocalItem) (old new : List Change) (left : ChaCha) : Type 0 where
  pub more : List Change
  pub added : new ≡ old ++ more
  pub rekeys : RekeysAll sets set words ((number, local) ∷ []) more left
  pub owned : All (IsOf Device) more

-- the same of a row that may be one of an item
abbrev pub RekeysRow : Sets → KeySet → ChaCha → Key → Value → List Change → List Change → ChaCha → Type 0
RekeysRow sets set words k v old new left = (number : ℕ) (local : LocalItem) → IsItemRow k v number local → RekeysOne sets set words number local old new left

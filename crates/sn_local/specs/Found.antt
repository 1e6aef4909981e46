-- Items among the rows, and among those that changes put.
use Rattle.std.specs.Prelude.{◌≡◌, ℕ}
use Rattle.sn_row_map.specs.RowMaps.{row_in}
use Rattle.sn_row_map.specs.declared.row_map.RowMap.{RowMap}
use Rattle.sn_rows.specs.Table.{Puts, Rows}
use Rattle.sn_rows.specs.declared.change.Change.{Change}
use Rattle.sn_rows.specs.declared.device_rows.LocalItem.{LocalItem}
use Rattle.sn_rows.specs.declared.key.Key.TheVariants as key
use Rattle.sn_rows.specs.declared.value.Value.TheVariants as value
use Rattle.sn_table.specs.Logs.{HasKinds}
use Rattle.sn_local.specs.Index.{Indexes}
use Rattle.sn_device.specs.States.{AreApart, Bytes, HasItem}
use Rattle.sn_local.specs.declared.index.Index.{Index}
use Rattle.sn_rows.specs.declared.key.Key.{Key}
use Rattle.sn_rows.specs.declared.value.Value.{Value}

-- the change puts an item of this uuid under the local number
abbrev pub PutsNamed : Bytes → Change → ℕ → Type 0
PutsNamed uuid change number = (local : LocalItem) × Puts change (key.Local number) (value.Local local) × (local.uuid ≡ uuid)

-- an item that the change puts under this uuid has it no more in the rows
abbrev pub IsGone : Rows → Bytes → Change → Type 0
IsGone rows uuid change = (number : ℕ) → PutsNamed uuid change number → (local : LocalItem) → ¬ (HasItem rows uuid number local)

-- the items of these rows are found by their uuids
pub record AreFound (index : Index) (rows : RowMap) : Type 0 where
  pub kinds : HasKinds rows
  pub indexed : Indexes index (row_in rows)
  pub apart : AreApart (row_in rows)

-- the row is that of this item, under this local number
abbrev pub IsItemRow : Key → Value → ℕ → LocalItem → Type 0
IsItemRow k v n local = (k ≡ key.Local n) × (v ≡ value.Local local)

-- A map of rows in memory.
use Rattle.std.specs.Prelude.{◌≡◌, List, Option, IsSome}
use Rattle.std.specs.Option.{option_and_then}
use Rattle.std.specs.BTreeMap.{get}
use Rattle.sn_rows.specs.Table.{Spares}
use Rattle.sn_rows.specs.declared.change.Change.{Change}
use Rattle.sn_rows.specs.declared.change.Change.TheVariants.{Put, Remove}
use Rattle.sn_rows.specs.declared.key.Key.{Key}
use Rattle.sn_rows.specs.declared.value.Value.{Value}
use Rattle.sn_row_map.specs.Keys.{key_cmp}
use Rattle.sn_row_map.specs.declared.row_map.RowMap.{RowMap}

-- the row of a key; one that has room alone has none
unfoldable pub row_in : RowMap → Key → Option Value
row_in map key = option_and_then (λ found. found) (get key_cmp map.entries key)

-- the map has a place for a row of this key
unfoldable pub HasRoom : RowMap → Key → Type 0
HasRoom map key = IsSome (get key_cmp map.entries key)

-- and for the row that a change puts
abbrev pub FitsIn : RowMap → Change → Type 0
FitsIn map (Put row) = HasRoom map row.key
FitsIn map (Remove key) = Unit {0}

-- the rows are the same
abbrev pub SameRows : RowMap → RowMap → Type 0
SameRows old new = (key : Key) → row_in new key ≡ row_in old key

-- what had room has it still
abbrev pub KeepsRoom : RowMap → RowMap → Type 0
KeepsRoom old new = (key : Key) → HasRoom old key → HasRoom new key

-- the key has room only if it has a row
abbrev pub IsSwept : RowMap → Key → Type 0
IsSwept map key = HasRoom map key → IsSome (row_in map key)

-- no key has room without a row
abbrev pub IsTidy : RowMap → Type 0
IsTidy map = (key : Key) → IsSwept map key

-- only the keys of these changes may have room without a row
abbrev pub IsTidyBut : List Change → RowMap → Type 0
IsTidyBut changes map = (key : Key) → Spares key changes → IsSwept map key

-- a key that has no room without a row gets none
abbrev pub StaysSwept : RowMap → RowMap → Key → Type 0
StaysSwept old new key = IsSwept old key → IsSwept new key

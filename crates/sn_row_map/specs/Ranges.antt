-- The rows of one kind.
use Rattle.std.specs.Prelude.{◌≡◌, ◌==◌, ◌↔◌, List, [], ◌∷◌, Option, Some, None, if◌then◌else◌}
use Rattle.std.specs.List.{Contains, filter, flat_map}
use Rattle.std.specs.List.Sorted.{IsStrictlySortedBy}
use Rattle.std.specs.Map.{keys_of}
use Rattle.std.specs.Ordering.{is_lt}
use Rattle.sn_rows.specs.Kinds.{key_kind, kind_number}
use Rattle.sn_rows.specs.Order.{key_order}
use Rattle.sn_rows.specs.declared.key.Key.{Key}
use Rattle.sn_rows.specs.declared.kind.RowKind.{RowKind}
use Rattle.sn_rows.specs.declared.value.Value.{Value}
use Rattle.sn_row_map.specs.RowMaps.{row_in}
use Rattle.sn_row_map.specs.declared.row_map.RowMap.{RowMap}

-- the row of a key and what is found of it, if it is of this kind
abbrev pub row_of_kind : RowKind → (Key × Option Value) → List (Key × Value)
row_of_kind kind (key, None) = []
row_of_kind kind (key, Some value) = if kind_number (key_kind key) == kind_number kind then (key, value) ∷ [] else []

-- in the order of their keys, and just the rows of this kind
pub record AreRowsOf (map : RowMap) (kind : RowKind) (rows : List (Key × Value)) : Type 0 where
  pub sorted : IsStrictlySortedBy key_order (keys_of rows)
  pub whole : (key : Key) (value : Value) → Contains rows (key, value) ↔ ((key_kind key ≡ kind) × (row_in map key ≡ Some value))

-- the list of them
unfoldable pub rows_of : RowMap → RowKind → List (Key × Value)
rows_of map kind = flat_map (row_of_kind kind) map.entries.entries

-- the rows of the key's kind that come behind it
abbrev pub rows_behind : RowMap → Key → List (Key × Value)
rows_behind map key = filter (λ row. is_lt (key_order key row.0)) (rows_of map (key_kind key))

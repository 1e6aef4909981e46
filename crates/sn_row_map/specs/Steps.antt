-- Steps from row to row of one kind.
use Rattle.std.specs.Borrow.{Bor}
use Rattle.std.specs.Prelude.{◌≡◌, ◌⊎◌, List, [], ◌∷◌, Option, Some, None, MatchOption}
use Rattle.std.specs.Option.{option_map}
use Rattle.std.specs.Map.Iter.{deref_pair}
use Rattle.sn_rows.specs.Kinds.{key_kind}
use Rattle.sn_rows.specs.Order.{ComesBefore}
use Rattle.sn_rows.specs.declared.key.Key.{Key}
use Rattle.sn_rows.specs.declared.kind.RowKind.{RowKind}
use Rattle.sn_rows.specs.declared.value.Value.{Value}
use Rattle.sn_row_map.specs.Ranges.{rows_behind}
use Rattle.sn_row_map.specs.RowMaps.{row_in}
use Rattle.sn_row_map.specs.declared.row_map.RowMap.{RowMap}

-- the row that a step lends
abbrev pub lent : Option (Bor Key × Bor Value) → Option (Key × Value)
lent found = option_map deref_pair found

-- the key passes and has this row, and no other that passes and has one comes before it
pub record IsLeast (map : RowMap) (P : Key → Type 0) (row : Key × Value) : Type 0 where
  pub passes : P row.0
  pub stands : row_in map row.0 ≡ Some row.1
  pub least : (key : Key) (value : Value) → P key → row_in map key ≡ Some value → (row.0 ≡ key) ⊎ ComesBefore row.0 key

-- what is found of the keys that pass: the least that has a row, or none where none has one
abbrev pub IsLeastOf : RowMap → (Key → Type 0) → Option (Key × Value) → Type 0
IsLeastOf map P found = MatchOption found ((key : Key) → P key → row_in map key ≡ None) (IsLeast map P)

-- the first row of a kind
abbrev pub IsFirst : RowMap → RowKind → Option (Key × Value) → Type 0
IsFirst map kind found = IsLeastOf map (λ key. key_kind key ≡ kind) found

-- the next row of the key's kind behind it
abbrev pub IsNext : RowMap → Key → Option (Key × Value) → Type 0
IsNext map key found = IsLeastOf map (λ other. (key_kind other ≡ key_kind key) × ComesBefore key other) found

-- the list begins with what is found, and goes on with the rows behind that one; it is empty where nothing is found
abbrev pub GoesOn : RowMap → List (Key × Value) → Option (Key × Value) → Type 0
GoesOn map rows found = MatchOption found (rows ≡ []) (λ row. rows ≡ row ∷ rows_behind map row.0)

-- the list begins with what is found, and is empty where nothing is
abbrev pub BeginsWith : List (Key × Value) → Option (Key × Value) → Type 0
BeginsWith rows None = rows ≡ []
BeginsWith rows (Some row) = (later : List (Key × Value)) × (rows ≡ row ∷ later)

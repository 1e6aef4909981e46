-- A walk over the rows of one kind.
use Rattle.std.proofs.Common.{◌≡◌, ◌∙◌, suc, length, ◌<◌, List, [], ◌∷◌, Option, Some, None, ap, arith}
use Rattle.sn_rows.specs.declared.key.Key.{Key}
use Rattle.sn_rows.specs.declared.value.Value.{Value}
use Rattle.sn_row_map.specs.Ranges.{rows_behind}
use Rattle.sn_row_map.specs.Steps.{GoesOn}
use Rattle.sn_row_map.specs.declared.row_map.RowMap.{RowMap}

abbrev Rowed : Type 0
Rowed = Key × Value

-- what is left of the walk
abbrev pub left_of : RowMap → Option Rowed → List Rowed
left_of map None = []
left_of map (Some row) = row ∷ rows_behind map row.0

pub goes_on : (map : RowMap) (rows : List Rowed) (found : Option Rowed) → GoesOn map rows found → rows ≡ left_of map found
goes_on map rows None is = is
goes_on map rows (Some row) is = is

-- what is left begins with the row that was found
pub left_is : (map : RowMap) (k : Key) (v : Value) (found next : Option Rowed) → found ≡ Some (k, v) → GoesOn map (rows_behind map k) next
    → left_of map found ≡ (k, v) ∷ left_of map next
left_is map k v found next is goes =
    ap (left_of map) is ∙ ap (λ (rows : List Rowed). (k, v) ∷ rows) (goes_on map (rows_behind map k) next goes)

pub walk_smaller : (map : RowMap) (k : Key) (v : Value) (found next : Option Rowed) → found ≡ Some (k, v) → GoesOn map (rows_behind map k) next
    → length (left_of map next) < length (left_of map found)
walk_smaller map k v found next is goes =
    let e : length (left_of map found) ≡ suc (length (left_of map next)) = ap length (left_is map k v found next is goes) in omega arith

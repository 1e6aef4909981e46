-- The rows that a server's state stands for.
use Rattle.std.specs.Prelude.{◌≡◌, List, [], ◌∷◌, Option, Some, None, if◌then◌else◌}
use Rattle.sn_rows.specs.Table.{Rows, rows_after, same_key}
use Rattle.sn_rows.specs.declared.key.Key.{Key}
use Rattle.sn_rows.specs.declared.key.Key.TheVariants as key
use Rattle.sn_rows.specs.declared.server_rows.StoreRow.{StoreRow}
use Rattle.sn_rows.specs.declared.value.Value.{Value}
use Rattle.sn_rows.specs.declared.value.Value.TheVariants as value
use Rattle.sn_row_map.specs.RowMaps.{IsTidyBut, row_in}
use Rattle.sn_account.specs.declared.state.State.{State}

-- the row of a key in a list of rows, where it was this before
abbrev pub listed_after : Option Value → Key → List (Key × Value) → Option Value
listed_after found key [] = found
listed_after found key ((k, v) ∷ rows) = listed_after (if same_key k key then Some v else found) key rows

-- the rows of a list; of two of one key the later
abbrev pub listed : List (Key × Value) → Rows
listed rows key = listed_after None key rows

-- the store's row alone
abbrev pub first_rows : StoreRow → Rows
first_rows store = listed ((key.Store, value.Store store) ∷ [])

-- before the changes that are marked
abbrev pub rows_before : State → Rows
rows_before s key = row_in s.rows key

-- with them
abbrev pub state_rows : State → Rows
state_rows s = rows_after (rows_before s) s.marked

-- only the marked changes have room beside the rows
abbrev pub HasNoRooms : State → Type 0
HasNoRooms s = IsTidyBut s.marked s.rows

-- none are marked
abbrev pub IsUnmarked : State → Type 0
IsUnmarked s = s.marked ≡ []

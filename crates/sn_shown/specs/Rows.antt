-- Rows by their kinds.
use Rattle.std.specs.Prelude.{ℕ, Option, Some, None}
use Rattle.sn_items.specs.declared.sealed.Sealed.{Sealed}
use Rattle.sn_row_map.specs.RowMaps.{row_in}
use Rattle.sn_row_map.specs.declared.row_map.RowMap.{RowMap}
use Rattle.sn_rows.specs.Table.{Rows}
use Rattle.sn_rows.specs.declared.body.RowBody.{RowBody}
use Rattle.sn_rows.specs.declared.body.RowBody.TheVariants as body
use Rattle.sn_rows.specs.declared.body.RowStrings.{RowStrings}
use Rattle.sn_rows.specs.declared.device_rows.LocalItem.{LocalItem}
use Rattle.sn_rows.specs.declared.device_rows.OwnerRow.{OwnerRow}
use Rattle.sn_rows.specs.declared.device_rows.SetRow.{SetRow}
use Rattle.sn_rows.specs.declared.server_rows.AccountRow.{AccountRow}
use Rattle.sn_rows.specs.declared.server_rows.GenerationRow.{GenerationRow}
use Rattle.sn_rows.specs.declared.server_rows.ItemRow.{ItemRow}
use Rattle.sn_rows.specs.declared.value.Value.{Value}
use Rattle.sn_rows.specs.declared.value.Value.TheVariants as value

-- the rows of a map; where there is none, there are no rows
abbrev pub rows_in : Option RowMap → Rows
rows_in None = λ key. None
rows_in (Some map) = row_in map

-- how many accounts the store's row counts; none before it stands
abbrev pub count_in : Option Value → ℕ
count_in (Some (value.Store row)) = row.accounts
count_in found = 0

abbrev pub account_in : Option Value → Option AccountRow
account_in (Some (value.Account row)) = Some row
account_in found = None

abbrev pub generation_in : Option Value → Option GenerationRow
generation_in (Some (value.Generation row)) = Some row
generation_in found = None

abbrev pub item_in : Option Value → Option ItemRow
item_in (Some (value.Item row)) = Some row
item_in found = None

abbrev pub owner_in : Option Value → Option OwnerRow
owner_in (Some (value.Owner owner)) = Some owner
owner_in found = None

abbrev pub set_in : Option Value → Option SetRow
set_in (Some (value.Set set)) = Some set
set_in found = None

abbrev pub local_in : Option Value → Option LocalItem
local_in (Some (value.Local item)) = Some item
local_in found = None

-- how many sets an account's row counts; none where there is no row
abbrev pub last_set_in : Option AccountRow → ℕ
last_set_in None = 0
last_set_in (Some row) = row.generation

-- the two strings of a server's row
abbrev pub sealed_in : ItemRow → Sealed
sealed_in row = record { content = row.content; enc = row.enc }

-- the two strings of what a device's row has; none of a deletion
abbrev pub strings_in : Option RowBody → Option RowStrings
strings_in (Some (body.Sealed strings)) = Some strings
strings_in found = None

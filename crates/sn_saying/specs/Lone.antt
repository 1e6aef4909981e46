-- What is accepted without a look at the device's rows: an item of an account with one set, which the device has sent.
use Rattle.std.specs.Prelude.{◌≡◌, List, [], ◌∷◌}
use Rattle.sn_rows.specs.Table.{Rows, rows_after}
use Rattle.sn_rows.specs.declared.change.Change.{Change}
use Rattle.sn_rows.specs.declared.change.Change.TheVariants.{Put, Remove}
use Rattle.sn_rows.specs.declared.key.Key.{Key}
use Rattle.sn_rows.specs.declared.key.Key.TheVariants as key
use Rattle.sn_rows.specs.declared.server_rows.ItemRow.{ItemRow}
use Rattle.sn_rows.specs.declared.value.Value.{Value}
use Rattle.sn_rows.specs.declared.value.Value.TheVariants as value
use Rattle.sn_world.specs.Serving.{IsSentRow, generation_of}

-- the account that an item's row names has one set
abbrev pub HasOneSet : Rows → ItemRow → Type 0
HasOneSet server row = generation_of (server (key.Account row.account)) ≡ 1

-- where it has, the device has sent the item whose row is put
abbrev pub LoneRow : Rows → Rows → Key → Value → Type 0
LoneRow server device (key.Item uuid) (value.Item row) = HasOneSet server row → IsSentRow (server (key.Item uuid)) device uuid row
LoneRow server device at v = Unit {0}

-- a row that is taken away is of no item that was sent
abbrev pub LoneChange : Rows → Rows → Change → Type 0
LoneChange server device (Put row) = LoneRow server device row.key row.value
LoneChange server device (Remove at) = Unit {0}

-- of a whole batch, each over the rows that those before it have left
abbrev pub LoneChanges : Rows → Rows → List Change → Type 0
LoneChanges server device [] = Unit {0}
LoneChanges server device (change ∷ changes) = LoneChange server device change × LoneChanges (rows_after server (change ∷ [])) device changes

-- The moves of an answer that a device applies, by its rows alone: a change of an item's row says what became of the row's draft, and no string is opened.
use Rattle.std.specs.Prelude.{ℕ, List, [], ◌∷◌, ◌++◌, Option, Some, None, is_some, if◌then◌else◌}
use Rattle.std.specs.List.{list_any}
use Rattle.std.specs.Option.{option_to_list}
use Rattle.std.specs.Str.{bytes_eq}
use Rattle.sn_laws.specs.Lookups.{Bytes}
use Rattle.sn_laws.specs.declared.moves.Move.{Move}
use Rattle.sn_laws.specs.declared.moves.Move.TheVariants.{Drop, Fork, GiveWay, Rename, Settle, SettlePosted}
use Rattle.sn_rows.specs.Table.{Rows, key_of, rows_after, value_of}
use Rattle.sn_rows.specs.declared.body.RowBody.{RowBody}
use Rattle.sn_rows.specs.declared.body.RowBody.TheVariants as row
use Rattle.sn_rows.specs.declared.change.Change.{Change}
use Rattle.sn_rows.specs.declared.device_rows.LocalItem.{LocalItem}
use Rattle.sn_rows.specs.declared.key.Key.{Key}
use Rattle.sn_rows.specs.declared.key.Key.TheVariants as key
use Rattle.sn_rows.specs.declared.value.Value.{Value}
use Rattle.sn_rows.specs.declared.value.Value.TheVariants as value

-- ---- the row of an item

-- what stands at a key, if that is an item's row
abbrev pub item_at : Key → Option Value → Option LocalItem
item_at (key.Local number) (Some (value.Local local)) = Some local
item_at at found = None

-- what a change finds, and what it leaves
abbrev pub item_found : Rows → Change → Option LocalItem
item_found rows change = item_at (key_of change) (rows (key_of change))

abbrev pub item_left : Change → Option LocalItem
item_left change = item_at (key_of change) (value_of change)

-- ---- a draft

-- a row under a new number that has a draft is the copy of a draft which another row had; the next change is of that row
abbrev pub copy_made : Option LocalItem → Option LocalItem → Option Bytes
copy_made None (Some now) = if is_some now.latest then Some now.uuid else None
copy_made was now = None

-- the draft ends, and its row takes the server's version: behind its copy it forks, a deletion gives way, and any other is the version's content
abbrev pub ended : Bytes → Bytes → Option Bytes → RowBody → Move
ended name uuid (Some copy) latest = Fork name uuid copy
ended name uuid None row.Deleted = GiveWay name uuid
ended name uuid None (row.Sealed strings) = Settle name uuid

-- the draft ends with its row: behind its copy it forks, a deletion is dropped where another account has the uuid, and any other is the server's too
abbrev pub ended_with_row : Bytes → List Bytes → Bytes → Option Bytes → Move
ended_with_row name foreign uuid (Some copy) = Fork name uuid copy
ended_with_row name foreign uuid None = if list_any (bytes_eq uuid) foreign then Drop name uuid else Settle name uuid

-- what was sent of the draft is the version on which it stands now
abbrev pub settled_at : Bytes → Bytes → Option ℕ → Option Move
settled_at name uuid None = None
settled_at name uuid (Some stamp) = Some (SettlePosted name uuid stamp)

-- the draft stays, that of an item with another uuid, or on another version
abbrev pub stayed : Bytes → LocalItem → LocalItem → Option Move
stayed name was now = if bytes_eq was.uuid now.uuid then settled_at name now.uuid now.base else Some (Rename name was.uuid now.uuid)

-- the row that had the draft is this now
abbrev pub draft_move : Bytes → List Bytes → Option Bytes → LocalItem → RowBody → Option LocalItem → Option Move
draft_move name foreign copy was latest None = Some (ended_with_row name foreign was.uuid copy)
draft_move name foreign copy was latest (Some now) = if is_some now.latest then stayed name was now else Some (ended name was.uuid copy latest)

-- ---- a change

-- a row without a draft says nothing
abbrev pub row_move : Bytes → List Bytes → Option Bytes → LocalItem → Option RowBody → Option LocalItem → Option Move
row_move name foreign copy was None now = None
row_move name foreign copy was (Some latest) now = draft_move name foreign copy was latest now

-- nor does a new row. Behind a change that made this copy, or none
abbrev pub item_move : Bytes → List Bytes → Option Bytes → Option LocalItem → Option LocalItem → Option Move
item_move name foreign copy None now = None
item_move name foreign copy (Some was) now = row_move name foreign copy was was.latest now

-- one change after another, each of the rows that those before it have left; other accounts have these uuids
abbrev pub answered : Bytes → List Bytes → Option Bytes → Rows → List Change → List Move
answered name foreign copy rows [] = []
answered name foreign copy rows (change ∷ changes) =
    option_to_list (item_move name foreign copy (item_found rows change) (item_left change))
    ++ answered name foreign (copy_made (item_found rows change) (item_left change)) (rows_after rows (change ∷ [])) changes

-- The moves of a commit of a device, by its rows before, its name, what was done, and the changes.
use Rattle.std.specs.Prelude.{List, [], ◌∷◌, Bool, ◌&&◌, Option, Some, None, is_none, if◌then◌else◌}
use Rattle.std.specs.List.{flat_map}
use Rattle.std.specs.Option.{option_and_then, option_to_list}
use Rattle.sn_laws.specs.Lookups.{Bytes}
use Rattle.sn_laws.specs.declared.ideal.Content.{Content}
use Rattle.sn_laws.specs.declared.ideal.Content.TheVariants as content
use Rattle.sn_laws.specs.declared.moves.Move.{Move}
use Rattle.sn_laws.specs.declared.moves.Move.TheVariants.{Drop, Edit, Join, Post}
use Rattle.sn_rows.specs.Table.{Rows}
use Rattle.sn_rows.specs.declared.change.Change.{Change}
use Rattle.sn_rows.specs.declared.device_rows.LocalItem.{LocalItem}
use Rattle.sn_moves.specs.Drafts.{answered, item_found}
use Rattle.sn_moves.specs.declared.done.Done.{Done}
use Rattle.sn_moves.specs.declared.done.Done.TheVariants as done

-- ---- what is done to an item, by its row before

-- it has this content now
abbrev pub edit_of : Bytes → Content → LocalItem → Move
edit_of name latest local = Edit name local.uuid local.kind local.base latest

-- no server knows of an item that stands on no version and of which nothing was sent
abbrev pub is_unknown : LocalItem → Bool
is_unknown local = is_none local.base && is_none local.posted

-- it has a deletion now; but an item of which no server knows is dropped
abbrev pub deletion_of : Bytes → LocalItem → Move
deletion_of name local = if is_unknown local then Drop name local.uuid else edit_of name content.Deleted local

abbrev pub item_moved : Bytes → Done → LocalItem → Option Move
item_moved name (done.Edits text) local = Some (edit_of name (content.Plain text) local)
item_moved name done.Deletes local = Some (deletion_of name local)
item_moved name done.Posts local = Some (Post name local.uuid)
item_moved name what local = None

-- ---- the whole commit

-- a change of an item's row is of the row that it finds in those before the commit
abbrev pub change_moved : Rows → Bytes → Done → Change → List Move
change_moved rows name what change = option_to_list (option_and_then (item_moved name what) (item_found rows change))

abbrev pub moves_of : Rows → Bytes → Done → List Change → List Move
moves_of rows name (done.Begins identifier number) changes = Join name identifier number ∷ []
moves_of rows name done.Renews changes = []
moves_of rows name (done.Puts uuid kind text) changes = Edit name uuid kind None (content.Plain text) ∷ []
moves_of rows name (done.Edits text) changes = flat_map (change_moved rows name (done.Edits text)) changes
moves_of rows name done.Deletes changes = flat_map (change_moved rows name done.Deletes) changes
moves_of rows name done.Posts changes = flat_map (change_moved rows name done.Posts) changes
moves_of rows name (done.Applies foreign) changes = answered name foreign None rows changes

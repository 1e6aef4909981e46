-- Which uuids another account has is told by the changes alone that take an item's row away.
use Rattle.std.proofs.Common.{◌≡◌, ◌++◌, Bool, true, false, List, [], ◌∷◌, Option, Some, None, refl, ap, ◌∙◌}
use Rattle.std.proofs.lemmas.Bool.{or_parts}
use Rattle.std.specs.List.{list_any}
use Rattle.std.specs.Option.{option_to_list}
use Rattle.std.specs.Prelude.{IsTrue}
use Rattle.sn_laws.specs.Lookups.{Bytes}
use Rattle.sn_laws.specs.declared.moves.Move.{Move}
use Rattle.sn_moves.specs.Commits.{moves_of}
use Rattle.sn_moves.specs.Drafts.{answered, copy_made, item_at, item_found, item_left, item_move, row_move}
use Rattle.sn_moves.specs.declared.done.Done.TheVariants as done
use Rattle.sn_rows.specs.Kinds.{key_kind, value_kind}
use Rattle.sn_rows.specs.Table.{Rows, rows_after}
use Rattle.sn_rows.specs.declared.body.RowBody.{RowBody}
use Rattle.sn_rows.specs.declared.change.Change.{Change}
use Rattle.sn_rows.specs.declared.change.Change.TheVariants.{Put, Remove}
use Rattle.sn_rows.specs.declared.device_rows.LocalItem.{LocalItem}
use Rattle.sn_rows.specs.declared.key.Key.{Key}
use Rattle.sn_rows.specs.declared.key.Key.TheVariants as key
use Rattle.sn_rows.specs.declared.value.Value.{Value}
use Rattle.sn_rows.specs.declared.value.Value.TheVariants as value
use Rattle.sn_telling.specs.Walking.{takes_item}

module _ (name : Bytes) (foreign other : List Bytes) where
  -- what is said of a row that becomes this one, or of none before
  row_same : (copy : Option Bytes) (was now : LocalItem) (latest : Option RowBody)
      → row_move name foreign copy was latest (Some now) ≡ row_move name other copy was latest (Some now)
  row_same copy was now None = refl
  row_same copy was now (Some latest) = refl

  left_same : (copy : Option Bytes) (was : Option LocalItem) (now : LocalItem)
      → item_move name foreign copy was (Some now) ≡ item_move name other copy was (Some now)
  left_same copy None now = refl
  left_same copy (Some was) now = row_same copy was now was.latest

  -- a row that is put at an item's key is an item's
  put_same : (copy : Option Bytes) (at : Key) (v : Value) (found : Option Value) → key_kind at ≡ value_kind v
      → item_move name foreign copy (item_at at found) (item_at at (Some v)) ≡ item_move name other copy (item_at at found) (item_at at (Some v))
  put_same copy key.Store v found same = refl
  put_same copy (key.Account n) v found same = refl
  put_same copy (key.Generation n g) v found same = refl
  put_same copy (key.Item u) v found same = refl
  put_same copy key.Owner v found same = refl
  put_same copy (key.Set s) v found same = refl
  put_same copy (key.Local n) (value.Local local) found same = left_same copy (item_at (key.Local n) found) local
  put_same copy (key.Local n) v found same = absurd (let impossible : ⊥ = cc in impossible)

  change_same : (copy : Option Bytes) (rows : Rows) (change : Change) → takes_item change ≡ false
      → item_move name foreign copy (item_found rows change) (item_left change) ≡ item_move name other copy (item_found rows change) (item_left change)
  change_same copy rows (Put row) none = put_same copy row.key row.value (rows row.key) row.one_kind
  change_same copy rows (Remove (key.Local n)) none = absurd (let impossible : ⊥ = cc in impossible)
  change_same copy rows (Remove key.Store) none = refl
  change_same copy rows (Remove (key.Account n)) none = refl
  change_same copy rows (Remove (key.Generation n g)) none = refl
  change_same copy rows (Remove (key.Item u)) none = refl
  change_same copy rows (Remove key.Owner) none = refl
  change_same copy rows (Remove (key.Set s)) none = refl

  -- none of these changes takes an item's row away
  answered_same : (copy : Option Bytes) (rows : Rows) (changes : List Change) → list_any takes_item changes ≡ false
      → answered name foreign copy rows changes ≡ answered name other copy rows changes
  answered_same copy rows [] none = refl
  answered_same copy rows (change ∷ changes) none =
      let parts = or_parts (takes_item change) (list_any takes_item changes) none in
      let next : Option Bytes = copy_made (item_found rows change) (item_left change) in
      let behind : Rows = rows_after rows (change ∷ []) in
      ap (λ (m : Option Move). option_to_list m ++ answered name foreign next behind changes) (change_same copy rows change parts.0)
      ∙ ap (λ (l : List Move). option_to_list (item_move name other copy (item_found rows change) (item_left change)) ++ l)
      (answered_same next behind changes parts.1)

  -- so the moves are these where the uuids are so wherever they matter
  pub moves_same : (rows : Rows) (changes : List Change) → (IsTrue (list_any takes_item changes) → foreign ≡ other)
      → moves_of rows name (done.Applies foreign) changes ≡ moves_of rows name (done.Applies other) changes
  moves_same rows changes so = by (list_any takes_item changes) refl
    where
      by : (takes : Bool) → list_any takes_item changes ≡ takes
          → moves_of rows name (done.Applies foreign) changes ≡ moves_of rows name (done.Applies other) changes
      by true is = ap (λ (uuids : List Bytes). moves_of rows name (done.Applies uuids) changes) (so is)
      by false is = answered_same None rows changes is

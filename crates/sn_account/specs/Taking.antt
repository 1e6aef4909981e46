-- What the code keeps of the items that were dealt with, and of one more.
use Rattle.std.specs.Prelude.{◌≡◌, ℕ, ◌+◌, ◌<◌, ◌≤◌, Bool, true, false, [], ◌∷◌, ◌++◌, Option, Some, None}
use Rattle.sn_rows.specs.Table.{Puts, Rows, rows_after}
use Rattle.sn_rows.specs.declared.change.Change.{Change}
use Rattle.sn_rows.specs.declared.key.Key.TheVariants as key
use Rattle.sn_rows.specs.declared.server_rows.ItemRow.{ItemRow}
use Rattle.sn_rows.specs.declared.value.Value.{Value}
use Rattle.sn_rows.specs.declared.value.Value.TheVariants as value
use Rattle.sn_string.specs.declared.params.Params.{Params}
use Rattle.sn_sync.specs.Stamps.{last_stamp}
use Rattle.sn_sync.specs.declared.answer.Conflict.TheVariants as conflict
use Rattle.sn_sync.specs.declared.item.Body.{Body}
use Rattle.sn_sync.specs.declared.item.Body.TheVariants as body
use Rattle.sn_sync.specs.declared.item.Item.{Item}
use Rattle.sn_account.specs.Incoming.{IsAbsent, IsFree, Progress, Takes, stamp_of}
use Rattle.sn_account.specs.Lookups.{Bytes, HasItem}
use Rattle.sn_account.specs.Stored.{IsGiven, body_of}
use Rattle.sn_account.specs.declared.taken.Effect.{Effect}
use Rattle.sn_account.specs.declared.taken.Effect.TheVariants as effect
use Rattle.sn_account.specs.declared.taken.Taken.{Taken}

-- over the rows before the first item
abbrev pub progress : Rows → Taken → Progress
progress rows t =
    record { rows = rows_after rows t.changes; last = t.last; changes = t.changes; saved = t.saved; conflicts = t.conflicts; bytes = t.bytes }

-- what an effect leaves
abbrev pub after : Progress → Effect → Progress
after p (effect.Unsaved c) = record p { conflicts = p.conflicts ++ c ∷ [] }
after p (effect.Saved given) = record p { saved = p.saved ++ given ∷ [] }
after p (effect.Other given bytes) = record p { conflicts = p.conflicts ++ conflict.Sync given ∷ []; bytes = p.bytes + bytes }
after p (effect.Accepted change given stamp) = record p {
  rows = rows_after p.rows (change ∷ []);
  last = stamp;
  changes = p.changes ++ change ∷ [];
  saved = p.saved ++ given ∷ [];
}
after p effect.PastLast = p

-- the item is dealt with so, or it would be accepted with a stamp past the last
abbrev pub IsEffect : Params → ℕ → ℕ → Progress → Item → Effect → Type 0
IsEffect present now n p i effect.PastLast = IsFree p n present i × (last_stamp < stamp_of now p.last)
IsEffect present now n p i (effect.Unsaved c) = Takes present now n p i (after p (effect.Unsaved c))
IsEffect present now n p i (effect.Saved given) = Takes present now n p i (after p (effect.Saved given))
IsEffect present now n p i (effect.Other given bytes) = Takes present now n p i (after p (effect.Other given bytes))
IsEffect present now n p i (effect.Accepted change given stamp) = Takes present now n p i (after p (effect.Accepted change given stamp))

-- the most bytes of a stored item's strings
abbrev pub most_weight : ℕ
most_weight = 2097152

-- its stamp and its bytes are within their bounds
abbrev pub IsBounded : Effect → Type 0
IsBounded (effect.Unsaved c) = Unit {0}
IsBounded (effect.Saved given) = Unit {0}
IsBounded (effect.Other given bytes) = bytes ≤ most_weight
IsBounded (effect.Accepted change given stamp) = stamp ≤ last_stamp
IsBounded effect.PastLast = Unit {0}

-- the item of a row that is found
abbrev pub item_in : Option Value → Option ItemRow
item_in (Some (value.Item row)) = Some row
item_in _ = None

-- the columns of a body's row: the strings are empty where it is deleted
abbrev pub is_deleted : Body → Bool
is_deleted body.Deleted = true
is_deleted (body.Strings content enc) = false

abbrev pub content_in : Body → Bytes
content_in body.Deleted = []
content_in (body.Strings content enc) = content

abbrev pub enc_in : Body → Bytes
enc_in body.Deleted = []
enc_in (body.Strings content enc) = enc

-- the stamp of an item's first acceptance, where there is a stored version
abbrev pub IsFirstStamp : Rows → Bytes → Option ℕ → Type 0
IsFirstStamp rows uuid None = IsAbsent rows uuid
IsFirstStamp rows uuid (Some created) = (old : ItemRow) × HasItem rows uuid old × (created ≡ old.created)

-- the row of an accepted item, which was first accepted at this stamp
pub record IsAcceptedRow (n created stamp : ℕ) (i : Item) (row : ItemRow) : Type 0 where
  pub account : row.account ≡ n
  pub kind : row.kind ≡ i.kind
  pub first : row.created ≡ created
  pub updated : row.updated ≡ stamp
  pub body : body_of row ≡ i.body
  pub gone : row.deleted ≡ true → (row.content ≡ []) × (row.enc ≡ [])

-- it is accepted so
pub record IsAcceptance (n created stamp : ℕ) (i : Item) (e : Effect) : Type 0 where
  pub row : ItemRow
  pub change : Change
  pub given : Item
  pub accepted : IsAcceptedRow n created stamp i row
  pub puts : Puts change (key.Item i.uuid) (value.Item row)
  pub given_is : IsGiven i.uuid row given
  pub is : e ≡ effect.Accepted change given stamp

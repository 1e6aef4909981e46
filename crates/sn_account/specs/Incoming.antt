-- What becomes of one item of a sync: the first of five cases that holds.
use Rattle.std.specs.Prelude.{◌≡◌, ◌≢◌, ◌⊎◌, ℕ, suc, max, ◌+◌, ◌<◌, ◌≤◌, List, [], ◌∷◌, ◌++◌, true, false, Some}
use Rattle.sn_rows.specs.Table.{Puts, Rows, rows_after}
use Rattle.sn_rows.specs.declared.change.Change.{Change}
use Rattle.sn_rows.specs.declared.key.Key.TheVariants as key
use Rattle.sn_rows.specs.declared.server_rows.ItemRow.{ItemRow}
use Rattle.sn_rows.specs.declared.value.Value.TheVariants as value
use Rattle.sn_string.specs.Grammar.{Is003, Reading}
use Rattle.sn_string.specs.Uuids.{uuid_text}
use Rattle.sn_string.specs.declared.params.Params.{Params}
use Rattle.sn_sync.specs.Stamps.{IsStampText, last_stamp}
use Rattle.sn_sync.specs.declared.answer.Conflict.{Conflict}
use Rattle.sn_sync.specs.declared.answer.Conflict.TheVariants as conflict
use Rattle.sn_sync.specs.declared.item.Body.{Body}
use Rattle.sn_sync.specs.declared.item.Body.TheVariants as body
use Rattle.sn_sync.specs.declared.item.Item.{Item}
use Rattle.sn_account.specs.Lookups.{Bytes, HasItem}
use Rattle.sn_account.specs.Pages.{most_bytes, weight}
use Rattle.sn_account.specs.Stored.{IsGiven, body_of}

-- what the items before have left: the rows, the last stamp, what was changed and answered, and the bytes of the stored items in conflicts
pub record Progress : Type 0 where
  pub rows : Rows
  pub last : ℕ
  pub changes : List Change
  pub saved : List Item
  pub conflicts : List Conflict
  pub bytes : ℕ

-- ---- an item and a stored version

-- two deleted versions are the same; two others where type and strings are
abbrev pub SameVersion : ItemRow → Item → Type 0
SameVersion row i = (body_of row ≡ i.body) × (row.deleted ≡ false → row.kind ≡ i.kind)

-- the item names the stored version
abbrev pub Names : Item → ItemRow → Type 0
Names i row = (text : Bytes) × IsStampText text row.updated × (i.updated_at ≡ Some text)

-- a 003 string that names this uuid and carries these parameters
abbrev pub IsOwnString : Bytes → Params → Bytes → Type 0
IsOwnString uuid params text = (reading : Reading) × Is003 text reading × (reading.uuid ≡ uuid_text uuid) × (reading.params ≡ params)

abbrev pub IsOwnBody : Bytes → Params → Body → Type 0
IsOwnBody uuid params body.Deleted = Unit {0}
IsOwnBody uuid params (body.Strings content enc) = IsOwnString uuid params content × IsOwnString uuid params enc

abbrev pub IsAbsent : Rows → Bytes → Type 0
IsAbsent rows uuid = (row : ItemRow) → ¬ (HasItem rows uuid row)

-- another account has the uuid
abbrev pub IsForeign : Progress → ℕ → Item → Type 0
IsForeign p n i = (row : ItemRow) × HasItem p.rows i.uuid row × (row.account ≢ n)

-- the account of this number has it, with this version
abbrev pub IsHeld : Progress → ℕ → Item → ItemRow → Type 0
IsHeld p n i row = HasItem p.rows i.uuid row × (row.account ≡ n)

-- a new item, or another version than the stored one, which it names
abbrev pub IsNews : Progress → ℕ → Item → Type 0
IsNews p n i = IsAbsent p.rows i.uuid ⊎ ((row : ItemRow) × IsHeld p n i row × ¬ (SameVersion row i) × Names i row)

-- ---- acceptance

abbrev pub stamp_of : ℕ → ℕ → ℕ
stamp_of now last = max now (suc last)

-- none of the cases before the last: it may be accepted
abbrev pub IsFree : Progress → ℕ → Params → Item → Type 0
IsFree p n present i = IsNews p n i × IsOwnBody i.uuid present i.body

-- the row of an accepted version; of a new item the first stamp is this one
pub record PutsVersion (p : Progress) (n stamp : ℕ) (i : Item) (row : ItemRow) (change : Change) : Type 0 where
  pub puts : Puts change (key.Item i.uuid) (value.Item row)
  pub account : row.account ≡ n
  pub kind : row.kind ≡ i.kind
  pub updated : row.updated ≡ stamp
  pub body : body_of row ≡ i.body
  pub gone : row.deleted ≡ true → (row.content ≡ []) × (row.enc ≡ [])
  pub first : ((old : ItemRow) × HasItem p.rows i.uuid old × (row.created ≡ old.created)) ⊎ (IsAbsent p.rows i.uuid × (row.created ≡ stamp))

-- ---- the cases

-- uuid_conflict: another account has the uuid
abbrev pub TakesForeign : ℕ → Progress → Item → Progress → Type 0
TakesForeign n p i q = IsForeign p n i × (q ≡ record p { conflicts = p.conflicts ++ conflict.Uuid i ∷ [] })

-- the same as the stored version: saved as that stands
abbrev pub TakesSame : ℕ → Progress → Item → Progress → Type 0
TakesSame n p i q = (row : ItemRow) × (given : Item) × IsHeld p n i row × SameVersion row i × IsGiven i.uuid row given
    × (q ≡ record p { saved = p.saved ++ given ∷ [] })

-- sync_conflict: another version is stored than the one that it names
abbrev pub TakesOther : ℕ → Progress → Item → Progress → Type 0
TakesOther n p i q = (row : ItemRow) × (given : Item) × IsHeld p n i row × ¬ (SameVersion row i) × ¬ (Names i row) × IsGiven i.uuid row given
    × (q ≡ record p { conflicts = p.conflicts ++ conflict.Sync given ∷ []; bytes = p.bytes + weight row })

-- content_error: it isn't sealed under the account's present parameters, or not for its uuid
abbrev pub TakesUnread : Params → ℕ → Progress → Item → Progress → Type 0
TakesUnread present n p i q = IsNews p n i × ¬ (IsOwnBody i.uuid present i.body)
    × (q ≡ record p { conflicts = p.conflicts ++ conflict.Content i ∷ [] })

-- accepted: its stamp is the clock's, or the next after the last where the clock isn't past that
abbrev pub TakesNew : Params → ℕ → ℕ → Progress → Item → Progress → Type 0
TakesNew present now n p i q = IsFree p n present i × (stamp_of now p.last ≤ last_stamp)
    × ((row : ItemRow) × (change : Change) × (given : Item) × PutsVersion p n (stamp_of now p.last) i row change
    × IsGiven i.uuid row given
    × (q ≡ record p {
      rows = rows_after p.rows (change ∷ []);
      last = stamp_of now p.last;
      changes = p.changes ++ change ∷ [];
      saved = p.saved ++ given ∷ [];
    }))

-- the item is dealt with, and this is left
abbrev pub Takes : Params → ℕ → ℕ → Progress → Item → Progress → Type 0
Takes present now n p i q =
    TakesForeign n p i q ⊎ TakesSame n p i q ⊎ TakesOther n p i q ⊎ TakesUnread present n p i q ⊎ TakesNew present now n p i q

-- ---- all items

-- in order; once the stored items in conflicts have too many bytes, the others are not looked at
abbrev pub TakesAll : Params → ℕ → ℕ → Progress → List Item → Progress → Type 0
TakesAll present now n p [] q = q ≡ p
TakesAll present now n p (i ∷ is) q =
    ((most_bytes < p.bytes) × (q ≡ p))
    ⊎ ((p.bytes ≤ most_bytes) × ((r : Progress) × Takes present now n p i r × TakesAll present now n r is q))

-- one of them would be accepted with a stamp past the last
pub record RunsOut (present : Params) (now n : ℕ) (p : Progress) (items : List Item) : Type 0 where
  pub front : List Item
  pub item : Item
  pub later : List Item
  pub split : items ≡ front ++ item ∷ later
  pub at : Progress
  pub taken : TakesAll present now n p front at
  pub looked : at.bytes ≤ most_bytes
  pub free : IsFree at n present item
  pub past : last_stamp < stamp_of now at.last

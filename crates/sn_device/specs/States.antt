-- What a device has: its account, its key sets, and its items, each with the version that it stands on, its draft, and what was sent of the draft;
-- and when its rows are sound.
use Rattle.std.specs.Prelude.{◌≡◌, ◌≢◌, ◌⊎◌, ◌↔◌, ◌<◌, ℕ, Bool, true, List, [], ◌∷◌, Option, Some, None, IsSome}
use Rattle.sn_items.specs.Items.{OpensItem}
use Rattle.sn_items.specs.Opens.{NamesItem}
use Rattle.sn_journal.specs.declared.owner.Owner.TheVariants.{Device}
use Rattle.sn_rows.specs.Kinds.{key_kind, value_kind}
use Rattle.sn_rows.specs.Table.{Rows}
use Rattle.sn_rows.specs.declared.body.RowBody.{RowBody}
use Rattle.sn_rows.specs.declared.body.RowBody.TheVariants as row
use Rattle.sn_rows.specs.declared.device_rows.LocalItem.{LocalItem}
use Rattle.sn_rows.specs.declared.device_rows.OwnerRow.{OwnerRow}
use Rattle.sn_rows.specs.declared.device_rows.SetRow.{SetRow}
use Rattle.sn_rows.specs.declared.key.Key.{Key}
use Rattle.sn_rows.specs.declared.key.Key.TheVariants as key
use Rattle.sn_rows.specs.declared.key.Slot.{Slot}
use Rattle.sn_rows.specs.declared.key.Slot.TheVariants.{Present, Older, Asked}
use Rattle.sn_rows.specs.declared.kind.RowKind.{RowKind}
use Rattle.sn_rows.specs.declared.kind.RowKind.TheVariants as kind
use Rattle.sn_rows.specs.declared.value.Value.{Value}
use Rattle.sn_rows.specs.declared.value.Value.TheVariants as value
use Rattle.sn_sets.specs.Sets.{sealed_of}
use Rattle.sn_sets.specs.declared.sets.Sets.{Sets}
use Rattle.sn_string.specs.Grammar.{Reading}
use Rattle.sn_string.specs.declared.params.KeySet.{KeySet}
use Rattle.sn_table.specs.Batches.{owner_of_kind}

abbrev pub Bytes : Type 0
Bytes = List ℕ

-- ---- rows

abbrev pub HasOwner : Rows → OwnerRow → Type 0
HasOwner rows owner = rows key.Owner ≡ Some (value.Owner owner)

abbrev pub HasSet : Rows → Slot → SetRow → Type 0
HasSet rows slot set = rows (key.Set slot) ≡ Some (value.Set set)

-- the item of this local number
abbrev pub HasLocal : Rows → ℕ → LocalItem → Type 0
HasLocal rows number local = rows (key.Local number) ≡ Some (value.Local local)

-- no row at all: a fresh device
abbrev pub IsFresh : Rows → Type 0
IsFresh rows = (at : Key) → rows at ≡ None

-- no account
abbrev pub HasNoAccount : Rows → Type 0
HasNoAccount rows = rows key.Owner ≡ None

-- the item of this uuid stands under this local number
abbrev pub HasItem : Rows → Bytes → ℕ → LocalItem → Type 0
HasItem rows uuid number local = HasLocal rows number local × (local.uuid ≡ uuid)

-- no item has the uuid
abbrev pub IsFree : Rows → Bytes → Type 0
IsFree rows uuid = (number : ℕ) (local : LocalItem) → ¬ (HasItem rows uuid number local)

-- some item has it
abbrev pub IsUsed : Rows → Bytes → Type 0
IsUsed rows uuid = (number : ℕ) × (local : LocalItem) × HasItem rows uuid number local

-- an item's uuid is no other item's
abbrev pub AreApart : Rows → Type 0
AreApart rows = (number other : ℕ) (local twin : LocalItem) → HasLocal rows number local → HasLocal rows other twin → local.uuid ≡ twin.uuid → number ≡ other

-- no set is asked for
abbrev pub HasNoneAsked : Rows → Type 0
HasNoneAsked rows = rows (key.Set Asked) ≡ None

-- ---- columns

-- the columns of an item's row
pub record Columns : Type 0 where
  pub uuid : Bytes
  pub kind : Bytes
  pub base : Option ℕ
  pub stale : Bool
  pub body : Option RowBody
  pub latest : Option RowBody
  pub posted : Option RowBody

abbrev pub columns : LocalItem → Columns
columns local = record {
  uuid = local.uuid;
  kind = local.kind;
  base = local.base;
  stale = local.stale;
  body = local.body;
  latest = local.latest;
  posted = local.posted;
}

-- the columns of the device's own row
pub record OwnerColumns : Type 0 where
  pub identifier : Bytes
  pub account : Bytes
  pub token : Bytes
  pub sync_token : Bytes
  pub cursor_token : Bytes
  pub next : ℕ

abbrev pub owner_columns : OwnerRow → OwnerColumns
owner_columns owner = record {
  identifier = owner.identifier;
  account = owner.account;
  token = owner.token;
  sync_token = owner.sync_token;
  cursor_token = owner.cursor_token;
  next = owner.next;
}

-- a sync or cursor token as the row has it: the empty text is none
abbrev pub token_of : Bytes → Option Bytes
token_of [] = None
token_of (byte ∷ bytes) = Some (byte ∷ bytes)

abbrev pub text_of_token : Option Bytes → Bytes
text_of_token None = []
text_of_token (Some text) = text

-- ---- key sets

-- the key set of a row, for an account of this identifier
pub record IsSetOf (identifier : Bytes) (keys : SetRow) (set : KeySet) : Type 0 where
  pub identifier_is : set.params.identifier ≡ identifier
  pub cost : set.params.pw_cost ≡ keys.pw_cost
  pub nonce : set.params.pw_nonce ≡ keys.pw_nonce
  pub pw : set.pw ≡ keys.pw
  pub mk : set.mk ≡ keys.mk
  pub ak : set.ak ≡ keys.ak

-- what a slot has
abbrev pub IsInSlot : Rows → Bytes → Slot → Option KeySet → Type 0
IsInSlot rows identifier slot None = rows (key.Set slot) ≡ None
IsInSlot rows identifier slot (Some set) = (keys : SetRow) × HasSet rows slot keys × IsSetOf identifier keys set

-- the account and the sets of a device
pub record HasSets (rows : Rows) (owner : OwnerRow) (sets : Sets) : Type 0 where
  pub owned : HasOwner rows owner
  pub in_use : IsInSlot rows owner.identifier Present (Some sets.present)
  pub before : IsInSlot rows owner.identifier Older sets.older
  pub wanted : IsInSlot rows owner.identifier Asked sets.asked

-- ---- sound rows, by their kinds: what loading asks

-- nothing stands without the device's own row
abbrev pub HasSoundOwner : Rows → Type 0
HasSoundOwner rows = (at : Key) (v : Value) → rows at ≡ Some v → (owner : OwnerRow) × HasOwner rows owner

-- a present set with an account, and an asked one only without an older one
pub record AreSoundSets (rows : Rows) : Type 0 where
  pub present : (owner : OwnerRow) → HasOwner rows owner → (keys : SetRow) × HasSet rows Present keys
  pub asked_alone : (asked older : SetRow) → HasSet rows Asked asked → ¬ (HasSet rows Older older)

-- the strings of a sealed version are 003 strings that name the item
abbrev pub NamesVersion : Bytes → Option RowBody → Type 0
NamesVersion uuid None = Unit {0}
NamesVersion uuid (Some row.Deleted) = Unit {0}
NamesVersion uuid (Some (row.Sealed strings)) =
    ((reading : Reading) × NamesItem strings.content reading uuid) × ((reading : Reading) × NamesItem strings.enc reading uuid)

-- the parts of an item's row: it stands on a sealed version, or has a draft, or both; what was sent is of a draft
pub record IsSoundItem (c : Columns) : Type 0 where
  pub based : IsSome c.base ↔ IsSome c.body
  pub undeleted : c.body ≢ Some row.Deleted
  pub some : IsSome c.base ⊎ IsSome c.latest
  pub sent : IsSome c.posted → IsSome c.latest
  pub again : c.stale ≡ true → IsSome c.base
  pub body_named : NamesVersion c.uuid c.body
  pub latest_named : NamesVersion c.uuid c.latest
  pub posted_named : NamesVersion c.uuid c.posted

-- items numbered below the next local number, with uuids that differ
pub record AreSoundLocals (rows : Rows) : Type 0 where
  pub numbered : (owner : OwnerRow) (number : ℕ) (local : LocalItem) → HasOwner rows owner → HasLocal rows number local → number < owner.next
  pub apart : (number other : ℕ) (local twin : LocalItem) → HasLocal rows number local → HasLocal rows other twin → local.uuid ≡ twin.uuid → number ≡ other
  pub items : (number : ℕ) (local : LocalItem) → HasLocal rows number local → IsSoundItem (columns local)

-- the rows are a device's, and each value is of its key's kind
pub record AreOfDevice (rows : Rows) : Type 0 where
  pub own : (at : Key) (v : Value) → rows at ≡ Some v → owner_of_kind (key_kind at) ≡ Device
  pub kinds : (at : Key) (v : Value) → rows at ≡ Some v → key_kind at ≡ value_kind v

pub record IsSound (rows : Rows) : Type 0 where
  pub device : AreOfDevice rows
  pub owner : HasSoundOwner rows
  pub sets : AreSoundSets rows
  pub locals : AreSoundLocals rows

-- none, where the rows of all kinds are sound; else the first kind of which they aren't
abbrev pub IsFirstUnsound : Rows → Option RowKind → Type 0
IsFirstUnsound rows None = IsSound rows
IsFirstUnsound rows (Some kind.Owner) = ¬ (HasSoundOwner rows)
IsFirstUnsound rows (Some kind.Set) = HasSoundOwner rows × ¬ (AreSoundSets rows)
IsFirstUnsound rows (Some kind.Local) = HasSoundOwner rows × AreSoundSets rows × ¬ (AreSoundLocals rows)
IsFirstUnsound rows (Some kind.Store) = ⊥
IsFirstUnsound rows (Some kind.Account) = ⊥
IsFirstUnsound rows (Some kind.Generation) = ⊥
IsFirstUnsound rows (Some kind.Item) = ⊥

-- ---- what a device's drafts are beside that; loading doesn't ask it, since it would have to open them all

-- a sealed version opens under the set
abbrev pub OpensVersion : KeySet → Bytes → Option RowBody → Type 0
OpensVersion set uuid None = Unit {0}
OpensVersion set uuid (Some row.Deleted) = Unit {0}
OpensVersion set uuid (Some (row.Sealed strings)) = (text : Bytes) × OpensItem (sealed_of strings) uuid set text

-- a draft and what was sent of it open under the present set, and where a deletion was sent the draft is still that
pub record IsOwnDraft (present : KeySet) (c : Columns) : Type 0 where
  pub latest_opens : OpensVersion present c.uuid c.latest
  pub posted_opens : OpensVersion present c.uuid c.posted
  pub deleted : c.posted ≡ Some row.Deleted → c.latest ≡ Some row.Deleted

-- the rows of a device whose drafts all are so
pub record IsSoundDevice (rows : Rows) : Type 0 where
  pub sound : IsSound rows
  pub drafts : (owner : OwnerRow) (sets : Sets) (number : ℕ) (local : LocalItem) → HasSets rows owner sets → HasLocal rows number local
      → IsOwnDraft sets.present (columns local)

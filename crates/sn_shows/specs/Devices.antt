-- What a device's rows show of the ideal state: its account, the sets that it holds, its drafts and what they stand on, and nothing else.
use Rattle.std.specs.Prelude.{◌≡◌, ℕ, ◌<◌, Bool, true, false, List, [], ◌∷◌, Option, Some, None, IsSome}
use Rattle.sn_laws.specs.Each.{One}
use Rattle.sn_laws.specs.Lookups.{Bytes, account_named, device_named, draft_at, greatest}
use Rattle.sn_laws.specs.declared.ideal.Account.{Account}
use Rattle.sn_laws.specs.declared.ideal.Body.TheVariants.{Under}
use Rattle.sn_laws.specs.declared.ideal.Content.{Content}
use Rattle.sn_laws.specs.declared.ideal.Content.TheVariants as content
use Rattle.sn_laws.specs.declared.ideal.Device.{Device}
use Rattle.sn_laws.specs.declared.ideal.Draft.{Draft}
use Rattle.sn_laws.specs.declared.ideal.Ideal.{Ideal}
use Rattle.sn_laws.specs.declared.ideal.Posted.{Posted}
use Rattle.sn_laws.specs.declared.ideal.Version.{Version}
use Rattle.sn_rows.specs.Table.{Rows}
use Rattle.sn_rows.specs.declared.body.RowBody.{RowBody}
use Rattle.sn_rows.specs.declared.body.RowBody.TheVariants as body
use Rattle.sn_rows.specs.declared.body.RowStrings.{RowStrings}
use Rattle.sn_rows.specs.declared.device_rows.LocalItem.{LocalItem}
use Rattle.sn_rows.specs.declared.device_rows.OwnerRow.{OwnerRow}
use Rattle.sn_rows.specs.declared.device_rows.SetRow.{SetRow}
use Rattle.sn_rows.specs.declared.key.Key.{Key}
use Rattle.sn_rows.specs.declared.key.Key.TheVariants as key
use Rattle.sn_rows.specs.declared.key.Slot.TheVariants.{Present, Older}
use Rattle.sn_rows.specs.declared.value.Value.{Value}
use Rattle.sn_rows.specs.declared.value.Value.TheVariants as value
use Rattle.sn_sets.specs.Sets.{sealed_of}
use Rattle.sn_string.specs.declared.params.KeySet.{KeySet}
use Rattle.sn_shows.specs.Sets.{set_at, OpensUnder}

-- a draft's content, sealed under the set of this number
abbrev pub ShowsContent : List KeySet → ℕ → Bytes → RowBody → Content → Type 0
ShowsContent sets number uuid (body.Sealed strings) (content.Plain text) = OpensUnder sets number uuid (sealed_of strings) text
ShowsContent sets number uuid (body.Sealed strings) content.Deleted = ⊥
ShowsContent sets number uuid body.Deleted (content.Plain text) = ⊥
ShowsContent sets number uuid body.Deleted content.Deleted = Unit {0}

-- what was sent of a draft, likewise; the rows don't say under which set
abbrev pub ShowsPosted : List KeySet → ℕ → Bytes → Option RowBody → Option Posted → Type 0
ShowsPosted sets number uuid None None = Unit {0}
ShowsPosted sets number uuid None (Some p) = ⊥
ShowsPosted sets number uuid (Some b) None = ⊥
ShowsPosted sets number uuid (Some b) (Some p) = ShowsContent sets number uuid b p.content

-- a draft: its type, what it stands on, its content and what was sent of it
pub record ShowsDraft (sets : List KeySet) (number : ℕ) (item : LocalItem) (draft : Draft) : Type 0 where
  pub kind : item.kind ≡ draft.kind
  pub base : item.base ≡ draft.base
  pub latest : RowBody
  pub latest_is : item.latest ≡ Some latest
  pub content : ShowsContent sets number item.uuid latest draft.latest
  pub posted : ShowsPosted sets number item.uuid item.posted draft.posted

-- and a row without one
abbrev pub ShowsDrafted : List KeySet → ℕ → LocalItem → Option Draft → Type 0
ShowsDrafted sets number item None = (item.latest ≡ None) × (item.posted ≡ None)
ShowsDrafted sets number item (Some draft) = ShowsDraft sets number item draft

-- the version that a row stands on is an undeleted one of its item, type and stamp in the account; the row has its strings
pub record ListsBase (a : Account) (item : LocalItem) (stamp : ℕ) : Type 0 where
  pub version : Version
  pub among : One (λ v. v ≡ version) a.versions
  pub item_is : version.uuid ≡ item.uuid
  pub kind_is : version.kind ≡ item.kind
  pub stamp_is : version.stamp ≡ stamp
  pub strings : RowStrings
  pub body_is : item.body ≡ Some (body.Sealed strings)
  pub text : Bytes
  pub number : ℕ
  pub live : version.body ≡ Under text number

-- strings of a row open to its version's content: under the version's set; of a row that was sealed anew and not yet sent, under the set of this number,
-- which is the greatest that the device holds and a later one than the version's
abbrev pub OpensBase : (sets : List KeySet) (number under : ℕ) (uuid : Bytes) (strings : RowStrings) (text : Bytes) (stale : Bool) → Type 0
OpensBase sets number under uuid strings text false = OpensUnder sets under uuid (sealed_of strings) text
OpensBase sets number under uuid strings text true = (under < number) × OpensUnder sets number uuid (sealed_of strings) text

-- a row stands on the version of this stamp
pub record IsBase (a : Account) (number : ℕ) (item : LocalItem) (stamp : ℕ) : Type 0 where
  pub listed : ListsBase a item stamp
  pub opens : OpensBase a.sets number listed.number item.uuid listed.strings listed.text item.stale

abbrev pub ShowsBase : Account → ℕ → LocalItem → Option ℕ → Type 0
ShowsBase a number item None = (item.body ≡ None) × IsSome item.latest
ShowsBase a number item (Some stamp) = IsBase a number item stamp

-- a row of an item: its draft, or none, and what it stands on, or nothing
pub record ShowsLocal (s : Ideal) (name : Bytes) (number : ℕ) (a : Account) (item : LocalItem) : Type 0 where
  pub draft : ShowsDrafted a.sets number item (draft_at s name item.uuid)
  pub base : ShowsBase a number item item.base

-- the row of a set is the account's set of this number
pub record IsSetRow (a : Account) (number : ℕ) (row : SetRow) : Type 0 where
  pub set : KeySet
  pub at : set_at number a.sets ≡ Some set
  pub identifier : set.params.identifier ≡ a.identifier
  pub cost : row.pw_cost ≡ set.params.pw_cost
  pub nonce : row.pw_nonce ≡ set.params.pw_nonce
  pub pw : row.pw ≡ set.pw
  pub mk : row.mk ≡ set.mk
  pub ak : row.ak ≡ set.ak

-- the sets in the first two slots are those held: the greatest is present, one before it is the older one. Of a set that is asked for nothing is shown
abbrev pub ShowsOlder : Account → Option Value → List ℕ → Type 0
ShowsOlder a found (older ∷ present ∷ []) = (row : SetRow) × (found ≡ Some (value.Set row)) × IsSetRow a older row
ShowsOlder a found held = found ≡ None

-- a row of a device's own kinds
abbrev pub IsDeviceKey : Key → Type 0
IsDeviceKey key.Store = ⊥
IsDeviceKey (key.Account number) = ⊥
IsDeviceKey (key.Generation number generation) = ⊥
IsDeviceKey (key.Item uuid) = ⊥
IsDeviceKey key.Owner = Unit {0}
IsDeviceKey (key.Set slot) = Unit {0}
IsDeviceKey (key.Local number) = Unit {0}

-- the row of the device's account
pub record ShowsOwner (rows : Rows) (a : Account) : Type 0 where
  pub owner : OwnerRow
  pub stands : rows key.Owner ≡ Some (value.Owner owner)
  pub identifier : owner.identifier ≡ a.identifier

-- the present set's row
pub record ShowsPresent (rows : Rows) (a : Account) (number : ℕ) : Type 0 where
  pub row : SetRow
  pub stands : rows (key.Set Present) ≡ Some (value.Set row)
  pub is : IsSetRow a number row

-- a draft has a row
pub record HasRow (rows : Rows) (uuid : Bytes) : Type 0 where
  pub number : ℕ
  pub item : LocalItem
  pub stands : rows (key.Local number) ≡ Some (value.Local item)
  pub item_is : item.uuid ≡ uuid

-- the rows of a device that has an account
pub record ShowsHolder (rows : Rows) (s : Ideal) (name : Bytes) (d : Device) (a : Account) : Type 0 where
  pub owner : ShowsOwner rows a
  pub present : ShowsPresent rows a (greatest 0 d.held)
  pub older : ShowsOlder a (rows (key.Set Older)) d.held
  pub locals : (number : ℕ) (item : LocalItem) → rows (key.Local number) ≡ Some (value.Local item) → ShowsLocal s name (greatest 0 d.held) a item
  pub once : (number other : ℕ) (item twin : LocalItem) → rows (key.Local number) ≡ Some (value.Local item) → rows (key.Local other) ≡ Some (value.Local twin)
      → item.uuid ≡ twin.uuid → number ≡ other
  pub drafts : (uuid : Bytes) (draft : Draft) → draft_at s name uuid ≡ Some draft → HasRow rows uuid
  pub no_other : (key : Key) → IsSome (rows key) → IsDeviceKey key

-- a device without an account has no rows and no drafts
pub record ShowsNothing (rows : Rows) (s : Ideal) (name : Bytes) : Type 0 where
  pub none : (key : Key) → rows key ≡ None
  pub no_draft : (uuid : Bytes) → draft_at s name uuid ≡ None

abbrev pub ShowsDeviceAs : Rows → Ideal → Bytes → Option Device → Type 0
ShowsDeviceAs rows s name None = ShowsNothing rows s name
ShowsDeviceAs rows s name (Some d) = (a : Account) × (account_named s d.account ≡ Some a) × ShowsHolder rows s name d a

-- a device's rows
abbrev pub ShowsDevice : Rows → Ideal → Bytes → Type 0
ShowsDevice rows s name = ShowsDeviceAs rows s name (device_named s name)

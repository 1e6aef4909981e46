-- What an item of a sync may be that was made, wherever the server still takes its session token.
use Rattle.std.specs.Prelude.{◌≡◌, ◌≢◌, ◌⊎◌, ℕ, ◌≤◌, List, Option, Some}
use Rattle.sn_account.specs.Incoming.{Names, SameVersion}
use Rattle.sn_changed.specs.Laws.{IsVersionSealedAgain}
use Rattle.sn_laws.specs.Each.{Each}
use Rattle.sn_laws.specs.Lookups.{Bytes, last_of}
use Rattle.sn_laws.specs.declared.ideal.Account.{Account}
use Rattle.sn_laws.specs.declared.ideal.Version.{Version}
use Rattle.sn_rows.specs.Table.{Rows}
use Rattle.sn_rows.specs.declared.body.RowBody.{RowBody}
use Rattle.sn_rows.specs.declared.device_rows.LocalItem.{LocalItem}
use Rattle.sn_rows.specs.declared.key.Key.TheVariants as key
use Rattle.sn_rows.specs.declared.server_rows.ItemRow.{ItemRow}
use Rattle.sn_rows.specs.declared.value.Value.{Value}
use Rattle.sn_rows.specs.declared.value.Value.TheVariants as value
use Rattle.sn_shows.specs.Servers.{account_at}
use Rattle.sn_sync.specs.Stamps.{IsStampText}
use Rattle.sn_sync.specs.Versions.{NamesStamp}
use Rattle.sn_sync.specs.declared.item.Item.{Item}
use Rattle.sn_device.specs.Sending.{SaysBase, message_body}
use Rattle.sn_device.specs.States.{HasLocal}

-- ---- where the server has this of the item's uuid, or nothing

-- another account's item
abbrev pub IsOthers : Option Value → ℕ → Type 0
IsOthers found n = (row : ItemRow) × (found ≡ Some (value.Item row)) × (row.account ≢ n)

-- the account's item, and the same version
abbrev pub IsSame : Option Value → ℕ → Item → Type 0
IsSame found n i = (row : ItemRow) × (found ≡ Some (value.Item row)) × (row.account ≡ n) × SameVersion row i

-- the account's item, at another stamp than the one that is named
abbrev pub IsPassed : Option Value → ℕ → Item → Type 0
IsPassed found n i = (row : ItemRow) × (found ≡ Some (value.Item row)) × (row.account ≡ n) × ¬ (Names i row)

-- the device's row of the item has it as what was sent, and stands on the version that it names
pub record IsPosted (device : Rows) (i : Item) : Type 0 where
  pub number : ℕ
  pub local : LocalItem
  pub stands : HasLocal device number local
  pub uuid_is : local.uuid ≡ i.uuid
  pub kind_is : local.kind ≡ i.kind
  pub base : SaysBase local.base i.updated_at
  pub posted : RowBody
  pub posted_is : local.posted ≡ Some posted
  pub body_is : i.body ≡ message_body posted

-- it names the account's last version of its item, which is live and under another set than the last, and is that, sealed again under the last set
pub record IsRewrap (accounts : List Account) (n : ℕ) (i : Item) : Type 0 where
  pub account : Account
  pub at : account_at n accounts ≡ Some account
  pub version : Version
  pub last : last_of i.uuid account.versions ≡ Some version
  pub names : NamesStamp i version.stamp
  pub again : IsVersionSealedAgain account version i

-- it changes nothing, or it may be accepted as what the device has sent, or is its last version, sealed again
abbrev pub LiveItem : Option Value → Rows → List Account → ℕ → Item → Type 0
LiveItem found device accounts n i = IsOthers found n ⊎ IsSame found n i ⊎ IsPassed found n i ⊎ IsPosted device i ⊎ IsRewrap accounts n i

-- of a request's items
abbrev pub LiveItems : Rows → Rows → List Account → ℕ → List Item → Type 0
LiveItems server device accounts n items = Each (λ i. LiveItem (server (key.Item i.uuid)) device accounts n i) items

-- no version that is named has a stamp to come
abbrev pub KnownBelow : ℕ → Item → Type 0
KnownBelow last i = (text : Bytes) (stamp : ℕ) → i.updated_at ≡ Some text → IsStampText text stamp → stamp ≤ last

-- How far a device has pulled: up to its sync token's stamp its rows are the account's last versions.
use Rattle.std.specs.Prelude.{◌≡◌, ℕ, ◌≤◌, List, Option, Some, None}
use Rattle.sn_device.specs.States.{HasItem, HasLocal, HasOwner, token_of}
use Rattle.sn_laws.specs.Lookups.{Bytes, last_of}
use Rattle.sn_laws.specs.Relation.{IsLive}
use Rattle.sn_laws.specs.declared.ideal.Account.{Account}
use Rattle.sn_laws.specs.declared.ideal.Device.{Device}
use Rattle.sn_laws.specs.declared.ideal.Ideal.{Ideal}
use Rattle.sn_laws.specs.declared.ideal.Version.{Version}
use Rattle.sn_rows.specs.Table.{Rows}
use Rattle.sn_rows.specs.declared.device_rows.LocalItem.{LocalItem}
use Rattle.sn_rows.specs.declared.device_rows.OwnerRow.{OwnerRow}
use Rattle.sn_shows.specs.Laws.{HasAccount}
use Rattle.sn_shows.specs.Servers.{account_at}
use Rattle.sn_sync.specs.Tokens.{IsToken}

-- ---- one item

-- its row stands on this stamp
abbrev pub HasBase : Rows → Bytes → ℕ → Type 0
HasBase rows uuid stamp = (number : ℕ) × (local : LocalItem) × HasItem rows uuid number local × (local.base ≡ Some stamp)

-- it stands on none
abbrev pub HasNoBase : Rows → Bytes → Type 0
HasNoBase rows uuid = (number : ℕ) (local : LocalItem) → HasItem rows uuid number local → local.base ≡ None

-- an undeleted last version up to the stamp is the one that the row stands on; of a deletion no row stands on a version
pub record PulledAt (rows : Rows) (a : Account) (upto : ℕ) (uuid : Bytes) : Type 0 where
  pub live : (v : Version) → last_of uuid a.versions ≡ Some v → v.stamp ≤ upto → IsLive v.body → HasBase rows uuid v.stamp
  pub gone : (v : Version) → last_of uuid a.versions ≡ Some v → v.stamp ≤ upto → ¬ (IsLive v.body) → HasNoBase rows uuid

-- ---- all items of a device

-- without a sync token no row stands on a version
abbrev pub BasesPulled : Rows → Type 0
BasesPulled device = (owner : OwnerRow) → HasOwner device owner → token_of owner.sync_token ≡ None → (uuid : Bytes) → HasNoBase device uuid

-- with one, each item has been pulled up to its stamp
abbrev pub PulledTo : Rows → List Account → Option Device → Type 0
PulledTo device accounts found = (d : Device) (number : ℕ) (a : Account) (owner : OwnerRow) (text : Bytes) (stamp : ℕ) → found ≡ Some d
    → account_at number accounts ≡ Some a → a.identifier ≡ d.account → HasOwner device owner → token_of owner.sync_token ≡ Some text → IsToken text stamp
    → (uuid : Bytes) → PulledAt device a stamp uuid

-- ---- all versions of its account

-- its sync token is of a stamp that is below no last version's
pub record HasAll (device : Rows) (s : Ideal) (name : Bytes) : Type 0 where
  pub owner : OwnerRow
  pub has : HasOwner device owner
  pub text : Bytes
  pub token : token_of owner.sync_token ≡ Some text
  pub stamp : ℕ
  pub is : IsToken text stamp
  pub all : (d : Device) (a : Account) (uuid : Bytes) (v : Version) → HasAccount s name d a → last_of uuid a.versions ≡ Some v → v.stamp ≤ stamp

-- a row stands on each undeleted last version of the account, with its type, and no row on anything else
pub record StandOnLasts (device : Rows) (a : Account) : Type 0 where
  pub each : (uuid : Bytes) (v : Version) → last_of uuid a.versions ≡ Some v → IsLive v.body
      → (number : ℕ) × (local : LocalItem) × HasItem device uuid number local × (local.base ≡ Some v.stamp) × (local.kind ≡ v.kind)
  pub no_other : (number : ℕ) (local : LocalItem) → HasLocal device number local
      → (v : Version) × (last_of local.uuid a.versions ≡ Some v) × IsLive v.body × (local.base ≡ Some v.stamp)

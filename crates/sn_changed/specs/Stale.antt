-- A device's row whose version was sealed anew, and the item that is sent of it: on the server the item's last version is behind.
use Rattle.std.specs.Prelude.{◌≡◌, ℕ, true, length, map, Some}
use Rattle.sn_account.specs.Incoming.{IsFree, Progress}
use Rattle.sn_laws.specs.Laws.{Rises}
use Rattle.sn_laws.specs.Lookups.{Bytes, last_of}
use Rattle.sn_laws.specs.declared.ideal.Account.{Account}
use Rattle.sn_laws.specs.declared.ideal.Ideal.{Ideal}
use Rattle.sn_laws.specs.declared.ideal.Version.{Version}
use Rattle.sn_rows.specs.declared.body.RowBody.TheVariants as row
use Rattle.sn_rows.specs.declared.body.RowStrings.{RowStrings}
use Rattle.sn_rows.specs.declared.device_rows.LocalItem.{LocalItem}
use Rattle.sn_shows.specs.Devices.{ShowsLocal}
use Rattle.sn_shows.specs.Laws.{AreApart}
use Rattle.sn_shows.specs.Servers.{ShowsAccounts, account_at}
use Rattle.sn_string.specs.declared.params.Params.{Params}
use Rattle.sn_sync.specs.Versions.{NamesStamp}
use Rattle.sn_sync.specs.declared.item.Body.TheVariants as body
use Rattle.sn_sync.specs.declared.item.Item.{Item}
use Rattle.sn_changed.specs.Laws.{IsVersionSealedAgain, MeetsBehind}

-- the row is stale and stands on the version of this stamp; the item is its uuid, its type and its strings
pub record IsResent (local : LocalItem) (stamp : ℕ) (i : Item) : Type 0 where
  pub stale : local.stale ≡ true
  pub base_is : local.base ≡ Some stamp
  pub uuid_is : i.uuid ≡ local.uuid
  pub kind_is : i.kind ≡ local.kind
  pub strings : RowStrings
  pub has : local.body ≡ Some (row.Sealed strings)
  pub body_is : i.body ≡ body.Strings strings.content strings.enc

-- the account's versions stand by rising stamp
abbrev pub HasRisingStamps : Account → Type 0
HasRisingStamps a = Rises (map (λ v. v.stamp) a.versions)

-- where the device's greatest set is its account's last, and the version is still its item's last one: that is live and under an earlier set, and the item is
-- it, sealed again under the last
abbrev pub StaleBehind : Type 0
StaleBehind = (s : Ideal) (name : Bytes) (a : Account) (local : LocalItem) (v : Version) (i : Item)
    → ShowsLocal s name (length a.sets) a local → HasRisingStamps a → IsResent local v.stamp i → last_of i.uuid a.versions ≡ Some v
    → IsVersionSealedAgain a v i

-- the version of this stamp is the item's last one in the account of this number, and is behind
pub record IsBehindAt (p : Progress) (s : Ideal) (number : ℕ) (a : Account) (stamp : ℕ) (i : Item) : Type 0 where
  pub version : Version
  pub stamp_is : version.stamp ≡ stamp
  pub meets : MeetsBehind p.rows s number a version i

-- so it is wherever the item names that stamp and a server may accept it
abbrev pub StaleFree : Type 0
StaleFree = (p : Progress) (present : Params) (s : Ideal) (name : Bytes) (number : ℕ) (a : Account) (local : LocalItem) (stamp : ℕ) (i : Item)
    → ShowsAccounts p.rows s.accounts → AreApart s.accounts → account_at number s.accounts ≡ Some a → HasRisingStamps a
    → ShowsLocal s name (length a.sets) a local → IsResent local stamp i → NamesStamp i stamp → IsFree p number present i
    → IsBehindAt p s number a stamp i

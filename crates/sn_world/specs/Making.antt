-- A request that a device makes of its rows.
use Rattle.std.specs.Prelude.{◌≡◌, ◌≢◌, ◌⊎◌, ℕ, true, List, ◌∷◌, length, Option, Some, None}
use Rattle.sn_laws.specs.Each.{Each}
use Rattle.sn_laws.specs.Lookups.{Bytes, greatest}
use Rattle.sn_laws.specs.declared.ideal.Account.{Account}
use Rattle.sn_laws.specs.declared.ideal.Device.{Device}
use Rattle.sn_laws.specs.declared.ideal.Ideal.{Ideal}
use Rattle.sn_rows.specs.Table.{Rows}
use Rattle.sn_rows.specs.declared.device_rows.LocalItem.{LocalItem}
use Rattle.sn_rows.specs.declared.device_rows.OwnerRow.{OwnerRow}
use Rattle.sn_rows.specs.declared.key.Key.TheVariants as key
use Rattle.sn_sets.specs.declared.sets.Sets.{Sets}
use Rattle.sn_shows.specs.Devices.{ShowsDevice}
use Rattle.sn_shows.specs.Laws.{HasAccount}
use Rattle.sn_shows.specs.Servers.{ShowsServer, account_at, stamps_in}
use Rattle.sn_string.specs.declared.params.KeySet.{KeySet}
use Rattle.sn_sync.specs.declared.item.Item.{Item}
use Rattle.sn_sync.specs.declared.request.Request.{Request}
use Rattle.sn_sync.specs.declared.request.Request.TheVariants as request
use Rattle.sn_world.specs.Holds.{Reached}
use Rattle.sn_world.specs.Live.{KnownBelow, LiveItem}
use Rattle.sn_device.specs.Sending.{IsSentAs}
use Rattle.sn_device.specs.States.{HasLocal, HasOwner, HasSets, token_of}
use Rattle.sn_device.specs.Runs.{change_to}
use Rattle.sn_world.specs.World.{Made, World}

-- the item is sent of a row, as what was posted of it
abbrev pub SendsPosted : LocalItem → Item → Type 0
SendsPosted local i = IsSentAs local i × (local.posted ≢ None)

-- it is sent of a row without a draft, as the version that the row stands on, sealed again
abbrev pub SendsAgain : LocalItem → Item → Type 0
SendsAgain local i = IsSentAs local i × (local.stale ≡ true) × (local.latest ≡ None) × (local.posted ≡ None)

abbrev pub IsSentBy : LocalItem → Item → Type 0
IsSentBy local i = SendsPosted local i ⊎ SendsAgain local i

-- of some row of the device
abbrev pub IsSentOf : Rows → Item → Type 0
IsSentOf device i = (number : ℕ) × (local : LocalItem) × HasLocal device number local × IsSentBy local i

-- these are the tokens of the device's row
abbrev pub HasTokens : Rows → Option Bytes → Option Bytes → Type 0
HasTokens device sync_token cursor_token =
    (owner : OwnerRow) → HasOwner device owner → (token_of owner.sync_token ≡ sync_token) × (token_of owner.cursor_token ≡ cursor_token)

-- a sync is from the device's tokens on
abbrev pub SendsTokens : Rows → Request → Type 0
SendsTokens device (request.Sync token items limit sync_token cursor_token) = HasTokens device sync_token cursor_token
SendsTokens device (request.Register params pw) = Unit {0}
SendsTokens device (request.Params identifier) = Unit {0}
SendsTokens device (request.SignIn identifier pw) = Unit {0}
SendsTokens device (request.ChangePw token current pw cost nonce) = Unit {0}

-- a sync is of the device's rows, each posted or to be sealed again, under its own token
pub record MakesSync (device : Rows) (token : Bytes) (items : List Item) : Type 0 where
  pub owner : OwnerRow
  pub has : HasOwner device owner
  pub token_is : token ≡ owner.token
  pub from : Each (IsSentOf device) items

-- a registration asks for the set that it would begin
pub record MakesRegister (begins : Option KeySet) (r : Request) : Type 0 where
  pub set : KeySet
  pub is : begins ≡ Some set
  pub request_is : r ≡ request.Register set.params set.pw

-- a change of password, from the present set to the one that is asked for, which it would begin
pub record MakesChange (device : Rows) (begins : Option KeySet) (r : Request) : Type 0 where
  pub owner : OwnerRow
  pub sets : Sets
  pub holds : HasSets device owner sets
  pub set : KeySet
  pub asked : sets.asked ≡ Some set
  pub is : begins ≡ Some set
  pub request_is : r ≡ change_to owner sets.present set

-- the request is one that the device's rows give, or its user's password
abbrev pub MakesOf : Rows → Option KeySet → Request → Type 0
MakesOf device begins (request.Register params pw) = MakesRegister begins (request.Register params pw)
MakesOf device begins (request.Params identifier) = Unit {0}
MakesOf device begins (request.SignIn identifier pw) = Unit {0}
MakesOf device begins (request.ChangePw token current pw cost nonce) = MakesChange device begins (request.ChangePw token current pw cost nonce)
MakesOf device begins (request.Sync token items limit sync_token cursor_token) = MakesSync device token items

-- it joins those that were made, delivered or not
pub record MakesRequest (w next : World) (m : Made) : Type 0 where
  pub of : MakesOf (w.devices m.device) m.begins m.request
  pub server : next.server ≡ w.server
  pub devices : next.devices ≡ w.devices
  pub made : next.made ≡ m ∷ w.made

-- what is sent so names no version to come, and is live where the device's greatest set is its account's last
abbrev pub MakesLive : Type 0
MakesLive = (server device : Rows) (s : Ideal) (name : Bytes) (n number : ℕ) (a : Account) (d : Device) (local : LocalItem) (i : Item)
    → Reached s → ShowsServer server s.accounts → account_at n s.accounts ≡ Some a → HasAccount s name d a → ShowsDevice device s name
    → HasLocal device number local → IsSentBy local i
    → KnownBelow (greatest 0 (stamps_in s.accounts)) i
    × (greatest 0 d.held ≡ length a.sets → LiveItem (server (key.Item i.uuid)) device s.accounts n i)

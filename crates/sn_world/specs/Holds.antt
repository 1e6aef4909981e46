-- The invariant: what the rows of both ends and the requests ever made have in common with the ideal state, at every moment.
use Rattle.std.specs.Prelude.{◌≡◌, ◌⊎◌, ℕ, ◌≤◌, List, length, Option, Some, None}
use Rattle.sn_account.specs.Lookups.{HasStore}
use Rattle.sn_account.specs.Sessions.{IsSession, account_uuid, session_token}
use Rattle.sn_account.specs.Sound.{IsSound as IsSoundServer, most_accounts, most_generations}
use Rattle.sn_adopted.specs.Moves.{OlderStale}
use Rattle.sn_laws.specs.Each.{Each}
use Rattle.sn_laws.specs.Lookups.{Bytes, device_named, draft_at, greatest}
use Rattle.sn_laws.specs.Relation.{IsOnLast}
use Rattle.sn_laws.specs.Runs.{Legal, end}
use Rattle.sn_laws.specs.declared.ideal.Account.{Account}
use Rattle.sn_laws.specs.declared.ideal.Device.{Device}
use Rattle.sn_laws.specs.declared.ideal.Draft.{Draft}
use Rattle.sn_laws.specs.declared.ideal.Ideal.{Ideal}
use Rattle.sn_laws.specs.declared.ideal.Posted.{Posted}
use Rattle.sn_laws.specs.declared.moves.Move.{Move}
use Rattle.sn_rows.specs.Table.{Rows}
use Rattle.sn_rows.specs.declared.device_rows.OwnerRow.{OwnerRow}
use Rattle.sn_rows.specs.declared.server_rows.StoreRow.{StoreRow}
use Rattle.sn_shows.specs.Devices.{ShowsDevice}
use Rattle.sn_shows.specs.Laws.{HasAccount}
use Rattle.sn_shows.specs.Servers.{ShowsServer, account_at, stamps_in}
use Rattle.sn_string.specs.declared.params.KeySet.{KeySet}
use Rattle.sn_string.specs.declared.params.Params.{Params}
use Rattle.sn_sync.specs.Tokens.{IsToken}
use Rattle.sn_sync.specs.declared.item.Item.{Item}
use Rattle.sn_sync.specs.declared.request.Request.TheVariants as request
use Rattle.sn_world.specs.Live.{KnownBelow, LiveItems}
use Rattle.sn_world.specs.Pulled.{BasesPulled, PulledTo}
use Rattle.sn_device.specs.States.{HasOwner, IsSound, token_of}
use Rattle.sn_world.specs.World.{IsMade, Made, World}

-- ---- the premise

-- under the server's secret no account has one session token for two generations of its keys. Of all secrets, and of more generations than an
-- account may have, nothing is supposed
abbrev pub TokensDiffer : Bytes → Type 0
TokensDiffer secret = (n g h : ℕ) → n ≤ most_accounts → g ≤ most_generations → h ≤ most_generations
    → session_token secret n g ≡ session_token secret n h → g ≡ h

-- ---- the ideal state

-- it comes of legal moves: so each law of lists of moves is a law of the state
pub record Reached (s : Ideal) : Type 0 where
  pub moves : List Move
  pub legal : Legal moves
  pub is : s ≡ end moves

-- no more accounts, and no more sets of one, than a server has
pub record AreFew (accounts : List Account) : Type 0 where
  pub accounts_few : length accounts ≤ most_accounts
  pub sets_few : (n : ℕ) (a : Account) → account_at n accounts ≡ Some a → length a.sets ≤ most_generations

-- what was sent of a draft has a set's number, and that of the greatest set that the device holds wherever it could be accepted
abbrev pub HasNumber : Ideal → Account → ℕ → Draft → Type 0
HasNumber s a number d = (p : Posted) → d.posted ≡ Some p → (k : ℕ) × (p.set ≡ Some k) × (IsOnLast s a d.uuid d.base → k ≡ number)

-- of all drafts of a device
abbrev pub PostedNumber : Ideal → Bytes → Account → ℕ → Type 0
PostedNumber s name a number = (uuid : Bytes) (d : Draft) → draft_at s name uuid ≡ Some d → HasNumber s a number d

-- where it has an account
abbrev pub NumbersOf : Ideal → Bytes → Type 0
NumbersOf s name = (d : Device) (a : Account) → HasAccount s name d a → PostedNumber s name a (greatest 0 d.held)

-- ---- rows

-- where a device holds two sets, each of its rows that the older one opens is to be sealed again
abbrev pub StaleOf : Rows → Ideal → Bytes → Type 0
StaleOf rows s name = (d : Device) (a : Account) → HasAccount s name d a → OlderStale rows a d.held

-- ---- session tokens

-- a device's own row has the uuid of its account, and the token of that and of the greatest set that it holds
pub record DeviceToken (secret : Bytes) (device : Rows) (accounts : List Account) (d : Device) : Type 0 where
  pub owner : OwnerRow
  pub has : HasOwner device owner
  pub number : ℕ
  pub account : Account
  pub at : account_at number accounts ≡ Some account
  pub own : account.identifier ≡ d.account
  pub uuid_is : owner.account ≡ account_uuid number
  pub is : owner.token ≡ session_token secret number (greatest 0 d.held)

-- a token that was sent is of the device's account, and of no set above the greatest that it holds now
pub record HasToken (secret : Bytes) (accounts : List Account) (found : Option Device) (token : Bytes) : Type 0 where
  pub number : ℕ
  pub account : Account
  pub at : account_at number accounts ≡ Some account
  pub device : Device
  pub named : found ≡ Some device
  pub own : account.identifier ≡ device.account
  pub generation : ℕ
  pub held : generation ≤ greatest 0 device.held
  pub is : token ≡ session_token secret number generation

-- ---- tokens of a sync

-- a token of a sync is none, or of a stamp that was given
abbrev pub IsTokenBelow : Option Bytes → ℕ → Type 0
IsTokenBelow None last = Unit {0}
IsTokenBelow (Some text) last = (stamp : ℕ) × IsToken text stamp × (stamp ≤ last)

-- so is the sync token of a device's row, and its cursor is none or the same
abbrev pub TokensBelow : Rows → ℕ → Type 0
TokensBelow device last = (owner : OwnerRow) → HasOwner device owner → IsTokenBelow (token_of owner.sync_token) last
    × ((token_of owner.cursor_token ≡ None) ⊎ (token_of owner.cursor_token ≡ token_of owner.sync_token))

-- ---- the requests that were made

-- the request is a sync of these items under this session token
pub record IsSync (m : Made) (token : Bytes) (items : List Item) : Type 0 where
  pub limit : ℕ
  pub sync_token : Option Bytes
  pub cursor_token : Option Bytes
  pub is : m.request ≡ request.Sync token items limit sync_token cursor_token

-- a sync: its token is the device's; no item names a version to come; and each item is live where the token is an account's present one
pub record HoldsSync (secret : Bytes) (server device : Rows) (s : Ideal) (name token : Bytes) (items : List Item) : Type 0 where
  pub of_device : HasToken secret s.accounts (device_named s name) token
  pub known : Each (KnownBelow (greatest 0 (stamps_in s.accounts))) items
  pub live : (n : ℕ) → IsSession server token n → LiveItems server device s.accounts n items

-- a registration: what is asked for is the set that it would begin
pub record BeginsSet (found : Option KeySet) (params : Params) (pw : Bytes) : Type 0 where
  pub set : KeySet
  pub is : found ≡ Some set
  pub params_are : params ≡ set.params
  pub pw_is : pw ≡ set.pw

-- a change of password: what is asked for is the set that it would begin, and its token is of that set's account and of a set that the account has
pub record HoldsChange (secret : Bytes) (accounts : List Account) (found : Option KeySet) (token pw : Bytes) (cost : ℕ) (nonce : Bytes) : Type 0 where
  pub set : KeySet
  pub is : found ≡ Some set
  pub pw_is : set.pw ≡ pw
  pub cost_is : set.params.pw_cost ≡ cost
  pub nonce_is : set.params.pw_nonce ≡ nonce
  pub number : ℕ
  pub account : Account
  pub at : account_at number accounts ≡ Some account
  pub own : account.identifier ≡ set.params.identifier
  pub generation : ℕ
  pub within : generation ≤ length account.sets
  pub token_is : token ≡ session_token secret number generation

-- ---- all of it

-- with the server's secret, between a world and the ideal state
pub record Holds (secret : Bytes) (w : World) (s : Ideal) : Type 0 where
  pub reached : Reached s
  pub few : AreFew s.accounts
  -- the server: its secret stays, its rows show the accounts, and are sound once there are any
  pub keeps_secret : (store : StoreRow) → HasStore w.server store → store.secret ≡ secret
  pub server : ShowsServer w.server s.accounts
  pub server_sound : (store : StoreRow) → HasStore w.server store → IsSoundServer w.server
  -- each device: its rows show what the state has of it, and are sound; and those of an older set are to be sealed again
  pub devices : (name : Bytes) → ShowsDevice (w.devices name) s name
  pub sound : (name : Bytes) → IsSound (w.devices name)
  pub older_stale : (name : Bytes) → StaleOf (w.devices name) s name
  -- its drafts that were sent, its session token, and its sync token
  pub numbers : (name : Bytes) → NumbersOf s name
  pub own_tokens : (name : Bytes) (d : Device) → device_named s name ≡ Some d → DeviceToken secret (w.devices name) s.accounts d
  pub sync_tokens : (name : Bytes) → TokensBelow (w.devices name) (greatest 0 (stamps_in s.accounts))
  -- how far it has pulled: without a sync token nothing, and with one up to its stamp
  pub bases_pulled : (name : Bytes) → BasesPulled (w.devices name)
  pub pulled : (name : Bytes) → PulledTo (w.devices name) s.accounts (device_named s name)
  -- each request that was made, whenever it comes: a sync, a change of password, a registration
  pub syncs : (m : Made) (token : Bytes) (items : List Item) → IsMade w m → IsSync m token items
      → HoldsSync secret w.server (w.devices m.device) s m.device token items
  pub changes : (m : Made) (token current pw : Bytes) (cost : ℕ) (nonce : Bytes) → IsMade w m → m.request ≡ request.ChangePw token current pw cost nonce
      → HoldsChange secret s.accounts m.begins token pw cost nonce
  pub registers : (m : Made) (params : Params) (pw : Bytes) → IsMade w m → m.request ≡ request.Register params pw → BeginsSet m.begins params pw

-- A commit of a device, when it may be made, and the moves that it says.
use Rattle.std.specs.Prelude.{◌≡◌, ◌≢◌, ◌⊎◌, ◌++◌, ◌<◌, ℕ, List, [], ◌∷◌, length, Some, None}
use Rattle.std.specs.List.{AllZip}
use Rattle.rand_chacha.specs.ChaCha.{ChaCha}
use Rattle.sn_account.specs.Sessions.{account_uuid, session_token}
use Rattle.sn_adopted.specs.Moves.{adopting, reposting}
use Rattle.sn_laws.specs.Each.{Each}
use Rattle.sn_laws.specs.Lookups.{Bytes, account_named, device_named, greatest, held_by, last_of}
use Rattle.sn_laws.specs.Relation.{IsBased}
use Rattle.sn_laws.specs.declared.ideal.Account.{Account}
use Rattle.sn_laws.specs.declared.ideal.Content.{Content}
use Rattle.sn_laws.specs.declared.ideal.Content.TheVariants as content
use Rattle.sn_laws.specs.declared.ideal.Device.{Device}
use Rattle.sn_laws.specs.declared.ideal.Ideal.{Ideal}
use Rattle.sn_laws.specs.declared.moves.Move.{Move}
use Rattle.sn_laws.specs.declared.moves.Move.TheVariants.{Drop, Edit, Join, Post}
use Rattle.sn_rows.specs.Table.{Rows}
use Rattle.sn_rows.specs.declared.change.Change.{Change}
use Rattle.sn_rows.specs.declared.device_rows.LocalItem.{LocalItem}
use Rattle.sn_shows.specs.Laws.{HasAccount}
use Rattle.sn_shows.specs.Servers.{account_at}
use Rattle.sn_shows.specs.Sets.{set_at}
use Rattle.sn_string.specs.declared.params.KeySet.{KeySet}
use Rattle.sn_device.specs.Listing.{AreItems}
use Rattle.sn_device.specs.Sending.{Numbered}
use Rattle.sn_device.specs.States.{HasItem, HasLocal}
use Rattle.sn_device.specs.Steps.{IsUnknown, Step, What, adopts, applies, asks, begins, deletes, edits, forgets, posts, puts, renews}
use Rattle.sn_world.specs.Applying.{MayApply, SaysAnswer}
use Rattle.sn_world.specs.World.{OnDevice, World}

-- the device commits what its step changes of its rows, with these words
pub record Commits (w next : World) (name : Bytes) (what : What) (changes : List Change) : Type 0 where
  pub words : ChaCha
  pub left : ChaCha
  pub step : Step (w.devices name) words what changes left
  pub on : OnDevice w next name changes

-- ---- when a commit may be made, beside what the device's rows say

-- the set is the account's last one, and uuid and session token are those of the account
pub record MayBegin (secret : Bytes) (s : Ideal) (set : KeySet) (uuid token : Bytes) : Type 0 where
  pub number : ℕ
  pub account : Account
  pub at : account_at number s.accounts ≡ Some account
  pub last : set_at (length account.sets) account.sets ≡ Some set
  pub uuid_is : uuid ≡ account_uuid number
  pub token_is : token ≡ session_token secret number (length account.sets)

-- the session token is that of the device's account and of the greatest set that the device holds
pub record MayRenew (secret : Bytes) (s : Ideal) (name token : Bytes) : Type 0 where
  pub number : ℕ
  pub account : Account
  pub at : account_at number s.accounts ≡ Some account
  pub device : Device
  pub named : device_named s name ≡ Some device
  pub own : account.identifier ≡ device.account
  pub token_is : token ≡ session_token secret number (greatest 0 device.held)

-- the set is the account's last one and above all that the device holds, and the session token is that of it
pub record MayAdopt (secret : Bytes) (s : Ideal) (name : Bytes) (set : KeySet) (token : Bytes) : Type 0 where
  pub number : ℕ
  pub account : Account
  pub at : account_at number s.accounts ≡ Some account
  pub device : Device
  pub named : device_named s name ≡ Some device
  pub own : account.identifier ≡ device.account
  pub last : set_at (length account.sets) account.sets ≡ Some set
  pub above : greatest 0 device.held < length account.sets
  pub token_is : token ≡ session_token secret number (length account.sets)

-- none stands twice
abbrev pub AreDifferent : List ℕ → Type 0
AreDifferent [] = Unit {0}
AreDifferent (number ∷ numbers) = Each (λ other. number ≢ other) numbers × AreDifferent numbers

-- by what is done; an answer is to tell the server's rows as they are
abbrev pub MayCommit : Bytes → Rows → Rows → Ideal → Bytes → What → Type 0
MayCommit secret server rows s name (begins set uuid token) = MayBegin secret s set uuid token
MayCommit secret server rows s name (renews token) = MayRenew secret s name token
MayCommit secret server rows s name (puts uuid kind text) = Unit {0}
MayCommit secret server rows s name (edits uuid text) = Unit {0}
MayCommit secret server rows s name (deletes uuid) = Unit {0}
MayCommit secret server rows s name (posts numbers) = AreDifferent numbers
MayCommit secret server rows s name (applies request given) = MayApply server rows s name request given
MayCommit secret server rows s name (asks set) = Unit {0}
MayCommit secret server rows s name (adopts set token) = MayAdopt secret s name set token
MayCommit secret server rows s name forgets = Unit {0}

-- ---- the moves of a commit, by what is done and the rows before it

-- the account's last set is joined
abbrev pub SaysJoin : Ideal → Bytes → Bytes → List Move → Type 0
SaysJoin s name identifier moves = (a : Account) × (account_named s identifier ≡ Some a) × (moves ≡ Join name identifier (length a.sets) ∷ [])

-- the item of this uuid has this content now
abbrev pub SaysEdit : Rows → Bytes → Bytes → Content → List Move → Type 0
SaysEdit rows name uuid latest moves = (number : ℕ) × (local : LocalItem) × HasItem rows uuid number local
    × (moves ≡ Edit name uuid local.kind local.base latest ∷ [])

-- so has it a deletion; but an item of which no server knows is dropped
abbrev pub SaysDeletion : Rows → Bytes → Bytes → List Move → Type 0
SaysDeletion rows name uuid moves = (number : ℕ) × (local : LocalItem) × HasItem rows uuid number local
    × ((IsUnknown local × (moves ≡ Drop name local.uuid ∷ []))
    ⊎ (¬ (IsUnknown local) × (moves ≡ Edit name uuid local.kind local.base content.Deleted ∷ [])))

-- the draft of this local number is posted
abbrev pub IsPostOf : Rows → Bytes → ℕ → Move → Type 0
IsPostOf rows name number move = (local : LocalItem) × HasLocal rows number local × (move ≡ Post name local.uuid)

-- something was sent of the row's draft, which stands on its item's last version in the account, or on none where the account has none. Whether
-- another account has the item isn't asked
abbrev pub IsReposted : Account → LocalItem → Type 0
IsReposted a local = (local.posted ≢ None) × IsBased local.base (last_of local.uuid a.versions)

-- the uuids of the rows' items of which that is so, in order
abbrev pub AreRepostedUuids : Account → List Numbered → List Bytes → Type 0
AreRepostedUuids a [] uuids = uuids ≡ []
AreRepostedUuids a (item ∷ items) uuids =
    (IsReposted a item.1 × ((later : List Bytes) × (uuids ≡ item.1.uuid ∷ later) × AreRepostedUuids a items later))
    ⊎ (¬ (IsReposted a item.1) × AreRepostedUuids a items uuids)

-- the former older set ends, the account's last set is joined, and what was sent of these items is sent again, in local order
pub record SaysAdoption (rows : Rows) (s : Ideal) (name : Bytes) (moves : List Move) : Type 0 where
  pub device : Device
  pub account : Account
  pub has : HasAccount s name device account
  pub items : List Numbered
  pub items_are : AreItems rows items
  pub uuids : List Bytes
  pub reposted : AreRepostedUuids account items uuids
  pub moves_are : moves ≡ adopting name account.identifier (length account.sets) device.held ++ reposting name uuids

-- by what is done
abbrev pub SaysCommit : Rows → Ideal → Bytes → What → List Change → List Move → Type 0
SaysCommit rows s name (begins set uuid token) changes moves = SaysJoin s name set.params.identifier moves
SaysCommit rows s name (renews token) changes moves = moves ≡ []
SaysCommit rows s name (puts uuid kind text) changes moves = moves ≡ Edit name uuid kind None (content.Plain text) ∷ []
SaysCommit rows s name (edits uuid text) changes moves = SaysEdit rows name uuid (content.Plain text) moves
SaysCommit rows s name (deletes uuid) changes moves = SaysDeletion rows name uuid moves
SaysCommit rows s name (posts numbers) changes moves = AllZip (IsPostOf rows name) numbers moves
SaysCommit rows s name (applies request given) changes moves = SaysAnswer rows (held_by (device_named s name)) name given changes moves
SaysCommit rows s name (asks set) changes moves = moves ≡ []
SaysCommit rows s name (adopts set token) changes moves = SaysAdoption rows s name moves
SaysCommit rows s name forgets changes moves = moves ≡ []

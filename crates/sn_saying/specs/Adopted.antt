-- What an adoption says, as the rows of both ends have it.
use Rattle.std.specs.Prelude.{◌≡◌, ◌≢◌, ◌==◌, ℕ, List, [], ◌∷◌, Option, Some, None, if◌then◌else◌}
use Rattle.sn_device.specs.Listing.{AreItems}
use Rattle.sn_device.specs.Sending.{Numbered}
use Rattle.sn_laws.specs.Lookups.{Bytes}
use Rattle.sn_laws.specs.declared.ideal.Account.{Account}
use Rattle.sn_laws.specs.declared.ideal.Device.{Device}
use Rattle.sn_laws.specs.declared.ideal.Ideal.{Ideal}
use Rattle.sn_laws.specs.declared.moves.Move.{Move}
use Rattle.sn_laws.specs.declared.moves.Move.TheVariants.{Join, Retire}
use Rattle.sn_rows.specs.Table.{Rows}
use Rattle.sn_rows.specs.declared.device_rows.LocalItem.{LocalItem}
use Rattle.sn_rows.specs.declared.key.Key.{Key}
use Rattle.sn_rows.specs.declared.key.Key.TheVariants as key
use Rattle.sn_rows.specs.declared.server_rows.AccountRow.{AccountRow}
use Rattle.sn_rows.specs.declared.server_rows.GenerationRow.{GenerationRow}
use Rattle.sn_rows.specs.declared.value.Value.{Value}
use Rattle.sn_rows.specs.declared.value.Value.TheVariants as value
use Rattle.sn_shows.specs.Devices.{ShowsDevice}
use Rattle.sn_shows.specs.Laws.{HasAccount}
use Rattle.sn_shows.specs.Servers.{ShowsServer}
use Rattle.sn_world.specs.Committing.{AreRepostedUuids, SaysAdoption}
use Rattle.sn_world.specs.Holds.{Reached}

-- ---- the account

-- a row of the server at this key is that of an account of this identifier
abbrev pub IsAccountAt : Bytes → Key → Value → Type 0
IsAccountAt identifier at v = (number : ℕ) × (row : AccountRow) × (at ≡ key.Account number) × (v ≡ value.Account row) × (row.identifier ≡ identifier)

-- it is that of the account of this number, which has so many sets
pub record IsAccountRow (identifier : Bytes) (at : Key) (v : Value) (found : ℕ × ℕ) : Type 0 where
  pub row : AccountRow
  pub at_is : at ≡ key.Account found.0
  pub value_is : v ≡ value.Account row
  pub identifier_is : row.identifier ≡ identifier
  pub generation_is : row.generation ≡ found.1

-- the account of this number has the identifier, and so many sets
pub record IsAccount (rows : Rows) (identifier : Bytes) (number generation : ℕ) : Type 0 where
  pub row : AccountRow
  pub stands : rows (key.Account number) ≡ Some (value.Account row)
  pub identifier_is : row.identifier ≡ identifier
  pub generation_is : row.generation ≡ generation

-- no account has the identifier
abbrev pub HasNoAccountOf : Rows → Bytes → Type 0
HasNoAccountOf rows identifier = (number : ℕ) (row : AccountRow) → rows (key.Account number) ≡ Some (value.Account row) → row.identifier ≢ identifier

-- the account of a device, by its own row
abbrev pub identifier_in : Option Value → Option Bytes
identifier_in (Some (value.Owner row)) = Some row.identifier
identifier_in found = None

-- ---- its sets

-- the set of this number of an account has this nonce
pub record HasNonce (rows : Rows) (number generation : ℕ) (nonce : Bytes) : Type 0 where
  pub row : GenerationRow
  pub stands : rows (key.Generation number generation) ≡ Some (value.Generation row)
  pub nonce_is : row.pw_nonce ≡ nonce

-- the nonce of a device's set
abbrev pub nonce_in : Option Value → Option Bytes
nonce_in (Some (value.Set row)) = Some row.pw_nonce
nonce_in found = None

-- of two sets that are held the older one
abbrev pub older_of : List ℕ → Option ℕ
older_of (older ∷ present ∷ []) = Some older
older_of held = None

-- the older set, if there is one, ends, and the one of this number is joined
abbrev pub joining : Bytes → Bytes → Option ℕ → ℕ → List Move
joining name identifier None number = Join name identifier number ∷ []
joining name identifier (Some older) number = Retire name older ∷ Join name identifier number ∷ []

-- ---- what is sent again

-- a row of an item
abbrev pub numbered : Key → Value → List Numbered
numbered (key.Local number) (value.Local local) = (number, local) ∷ []
numbered at v = []

-- the stamp of an item's row, where that is of the account of this number
abbrev pub stamp_for : ℕ → Option Value → Option ℕ
stamp_for number (Some (value.Item row)) = if row.account == number then Some row.updated else None
stamp_for number found = None

-- something was sent of the device's row, which stands on the version that the server has of the item in the account, or on none where it has none
abbrev pub StandsOn : Rows → ℕ → LocalItem → Type 0
StandsOn server number local = (local.posted ≢ None) × (local.base ≡ stamp_for number (server (key.Item local.uuid)))

-- the item's uuid, where that is so
abbrev pub IsUuidOf : Rows → ℕ → LocalItem → Option Bytes → Type 0
IsUuidOf server number local None = ¬ (StandsOn server number local)
IsUuidOf server number local (Some uuid) = StandsOn server number local × (uuid ≡ local.uuid)

-- these are the uuids of the items of which that is so, in local order
abbrev pub AreRepostedIn : Rows → Account → List Bytes → Type 0
AreRepostedIn rows a uuids = (items : List Numbered) × AreItems rows items × AreRepostedUuids a items uuids

-- ---- all of it

-- the moves are what an adoption says, in every state that legal moves lead to and that the rows of both ends show
abbrev pub IsAdoption : Rows → Rows → Bytes → List Move → Type 0
IsAdoption server rows name moves = (s : Ideal) (d : Device) (a : Account) → Reached s → ShowsServer server s.accounts → ShowsDevice rows s name
    → HasAccount s name d a → SaysAdoption rows s name moves

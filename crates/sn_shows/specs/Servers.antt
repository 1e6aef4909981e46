-- What a server's rows show of the accounts: each account, its sets' parameters and its items' last versions, and nothing else.
use Rattle.std.specs.Prelude.{◌≡◌, ℕ, zero, suc, List, [], length, map, true, false, Option, Some, None, IsSome, find, slice_get}
use Rattle.std.specs.List.{flat_map}
use Rattle.sn_keys.specs.Keys.{check_value}
use Rattle.sn_laws.specs.Lookups.{Bytes, greatest, is_of, last_of}
use Rattle.sn_laws.specs.declared.ideal.Account.{Account}
use Rattle.sn_laws.specs.declared.ideal.Body.{Body}
use Rattle.sn_laws.specs.declared.ideal.Body.TheVariants.{Under, Gone}
use Rattle.sn_laws.specs.declared.ideal.Version.{Version}
use Rattle.sn_rows.specs.Table.{Rows}
use Rattle.sn_rows.specs.declared.key.Key.{Key}
use Rattle.sn_rows.specs.declared.key.Key.TheVariants as key
use Rattle.sn_rows.specs.declared.value.Value.{Value}
use Rattle.sn_rows.specs.declared.value.Value.TheVariants as value
use Rattle.sn_rows.specs.declared.server_rows.AccountRow.{AccountRow}
use Rattle.sn_rows.specs.declared.server_rows.GenerationRow.{GenerationRow}
use Rattle.sn_rows.specs.declared.server_rows.ItemRow.{ItemRow}
use Rattle.sn_rows.specs.declared.server_rows.StoreRow.{StoreRow}
use Rattle.sn_string.specs.declared.params.KeySet.{KeySet}
use Rattle.sn_shows.specs.Sets.{set_at, OpensUnder}

-- the stamps of all versions of all accounts
abbrev pub stamps_in : List Account → List ℕ
stamps_in accounts = flat_map (λ a. map (λ v. v.stamp) a.versions) accounts

-- an item's first version
abbrev pub first_of : Bytes → List Version → Option Version
first_of uuid versions = find (is_of uuid) versions

-- a deleted version leaves two empty strings; another's open to its content under its set
abbrev pub ShowsStrings : List KeySet → Bytes → ItemRow → Body → Type 0
ShowsStrings sets uuid row (Under text number) = (row.deleted ≡ false) × OpensUnder sets number uuid (record { content = row.content; enc = row.enc }) text
ShowsStrings sets uuid row Gone = (row.deleted ≡ true) × (row.content ≡ []) × (row.enc ≡ [])

-- the row of an item is its last version in the account of this number; it says when the first was accepted
pub record ShowsItem (rows : Rows) (number : ℕ) (a : Account) (uuid : Bytes) (v : Version) : Type 0 where
  pub row : ItemRow
  pub stands : rows (key.Item uuid) ≡ Some (value.Item row)
  pub account : row.account ≡ number
  pub kind : row.kind ≡ v.kind
  pub updated : row.updated ≡ v.stamp
  pub first : Version
  pub first_is : first_of uuid a.versions ≡ Some first
  pub created : row.created ≡ first.stamp
  pub strings : ShowsStrings a.sets uuid row v.body

-- the row of the account of this number: its identifier, how many sets it had, and the check value of the last one
pub record ShowsIdentity (rows : Rows) (number : ℕ) (a : Account) : Type 0 where
  pub row : AccountRow
  pub stands : rows (key.Account number) ≡ Some (value.Account row)
  pub identifier : row.identifier ≡ a.identifier
  pub generation : row.generation ≡ length a.sets
  pub last : KeySet
  pub last_is : set_at (length a.sets) a.sets ≡ Some last
  pub check : row.check ≡ check_value last.pw

-- the row of a set of an account: its parameters
pub record ShowsGeneration (rows : Rows) (number : ℕ) (a : Account) (generation : ℕ) (set : KeySet) : Type 0 where
  pub row : GenerationRow
  pub stands : rows (key.Generation number generation) ≡ Some (value.Generation row)
  pub cost : row.pw_cost ≡ set.params.pw_cost
  pub nonce : row.pw_nonce ≡ set.params.pw_nonce
  pub identifier : set.params.identifier ≡ a.identifier

-- all rows of an account
pub record ShowsAccount (rows : Rows) (number : ℕ) (a : Account) : Type 0 where
  pub identity : ShowsIdentity rows number a
  pub generations : (generation : ℕ) (set : KeySet) → set_at generation a.sets ≡ Some set → ShowsGeneration rows number a generation set
  pub items : (uuid : Bytes) (v : Version) → last_of uuid a.versions ≡ Some v → ShowsItem rows number a uuid v

-- the account of this number
abbrev pub account_at : ℕ → List Account → Option Account
account_at zero accounts = None
account_at (suc n) accounts = slice_get accounts n

-- a row of an item stands for a version of some account
pub record IsShown (accounts : List Account) (uuid : Bytes) : Type 0 where
  pub number : ℕ
  pub account : Account
  pub at : account_at number accounts ≡ Some account
  pub version : Version
  pub last : last_of uuid account.versions ≡ Some version

-- a row of a set stands for a set of an account
pub record IsSet (accounts : List Account) (number generation : ℕ) : Type 0 where
  pub account : Account
  pub at : account_at number accounts ≡ Some account
  pub set : KeySet
  pub set_is : set_at generation account.sets ≡ Some set

-- only a server's rows, and each of them for something
abbrev pub StandsForSome : List Account → Key → Type 0
StandsForSome accounts key.Store = Unit {0}
StandsForSome accounts (key.Account number) = IsSome (account_at number accounts)
StandsForSome accounts (key.Generation number generation) = IsSet accounts number generation
StandsForSome accounts (key.Item uuid) = IsShown accounts uuid
StandsForSome accounts key.Owner = ⊥
StandsForSome accounts (key.Set slot) = ⊥
StandsForSome accounts (key.Local number) = ⊥

-- all but the store's own row
pub record ShowsAccounts (rows : Rows) (accounts : List Account) : Type 0 where
  pub each : (number : ℕ) (a : Account) → account_at number accounts ≡ Some a → ShowsAccount rows number a
  pub no_other : (key : Key) → IsSome (rows key) → StandsForSome accounts key

-- the store's own row has the greatest stamp, or 0, and counts the accounts; before it stands there is no account
abbrev pub ShowsStore : Option Value → List Account → Type 0
ShowsStore None accounts = accounts ≡ []
ShowsStore (Some v) accounts = (row : StoreRow) × (v ≡ value.Store row) × (row.last ≡ greatest 0 (stamps_in accounts)) × (row.accounts ≡ length accounts)

-- a server's rows
pub record ShowsServer (rows : Rows) (accounts : List Account) : Type 0 where
  pub store : ShowsStore (rows key.Store) accounts
  pub all : ShowsAccounts rows accounts

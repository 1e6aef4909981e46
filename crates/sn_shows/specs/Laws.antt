-- What the changes of each commit make of rows that show a state: they show the state after the commit's moves. The laws speak of
-- rows and moves alone.
use Rattle.std.specs.Prelude.{◌≡◌, ◌≢◌, ℕ, ◌+◌, List, [], ◌∷◌, length, Option, Some, None, IsTrue}
use Rattle.sn_keys.specs.Keys.{check_value}
use Rattle.sn_laws.specs.Lookups.{Bytes, account_named, account_of, device_named, draft_at, greatest}
use Rattle.sn_laws.specs.Moves.{allows, after, body_under, sent_content}
use Rattle.sn_laws.specs.Runs.{Legal, end}
use Rattle.sn_laws.specs.declared.ideal.Account.{Account}
use Rattle.sn_laws.specs.declared.ideal.Content.TheVariants.{Plain}
use Rattle.sn_laws.specs.declared.ideal.Device.{Device}
use Rattle.sn_laws.specs.declared.ideal.Draft.{Draft}
use Rattle.sn_laws.specs.declared.ideal.Ideal.{Ideal}
use Rattle.sn_laws.specs.declared.ideal.Version.{Version}
use Rattle.sn_laws.specs.declared.moves.Move.{Move}
use Rattle.sn_laws.specs.declared.moves.Move.TheVariants.{Register, Join, Edit, Post, Accept, Settle}
use Rattle.sn_rows.specs.Table.{Puts, Rows, rows_after}
use Rattle.sn_rows.specs.declared.body.RowBody.TheVariants as body
use Rattle.sn_rows.specs.declared.body.RowStrings.{RowStrings}
use Rattle.sn_rows.specs.declared.change.Change.{Change}
use Rattle.sn_rows.specs.declared.device_rows.LocalItem.{LocalItem}
use Rattle.sn_rows.specs.declared.device_rows.OwnerRow.{OwnerRow}
use Rattle.sn_rows.specs.declared.device_rows.SetRow.{SetRow}
use Rattle.sn_rows.specs.declared.key.Key.TheVariants as key
use Rattle.sn_rows.specs.declared.key.Slot.TheVariants.{Present}
use Rattle.sn_rows.specs.declared.server_rows.AccountRow.{AccountRow}
use Rattle.sn_rows.specs.declared.server_rows.GenerationRow.{GenerationRow}
use Rattle.sn_rows.specs.declared.server_rows.ItemRow.{ItemRow}
use Rattle.sn_rows.specs.declared.server_rows.StoreRow.{StoreRow}
use Rattle.sn_rows.specs.declared.value.Value.TheVariants as value
use Rattle.sn_sets.specs.Sets.{sealed_of}
use Rattle.sn_string.specs.declared.params.KeySet.{KeySet}
use Rattle.sn_shows.specs.Sets.{OpensUnder}
use Rattle.sn_shows.specs.Servers.{ShowsServer, ShowsAccounts, ShowsStrings, account_at, first_of, stamps_in}
use Rattle.sn_shows.specs.Devices.{ShowsDevice, IsSetRow, IsBase}

-- the server

-- the change puts the store's row, with the greatest stamp and the number of these accounts
pub record PutsStore (change : Change) (accounts : List Account) : Type 0 where
  pub row : StoreRow
  pub puts : Puts change key.Store (value.Store row)
  pub last : row.last ≡ greatest 0 (stamps_in accounts)
  pub count : row.accounts ≡ length accounts

-- the server's first commit, and what ends each later one
abbrev pub StoreShows : Type 0
StoreShows = (rows : Rows) (accounts : List Account) (change : Change)
    → ShowsAccounts rows accounts → PutsStore change accounts → ShowsServer (rows_after rows (change ∷ [])) accounts

-- the changes put the rows of a new account of this number with one set
pub record PutsAccount (account generation : Change) (number : ℕ) (identifier : Bytes) (set : KeySet) : Type 0 where
  pub row : AccountRow
  pub account_puts : Puts account (key.Account number) (value.Account row)
  pub identifier_is : row.identifier ≡ identifier
  pub first : row.generation ≡ 1
  pub check : row.check ≡ check_value set.pw
  pub params : GenerationRow
  pub generation_puts : Puts generation (key.Generation number 1) (value.Generation params)
  pub cost : params.pw_cost ≡ set.params.pw_cost
  pub nonce : params.pw_nonce ≡ set.params.pw_nonce
  pub own : set.params.identifier ≡ identifier

abbrev pub RegisteredShows : Type 0
RegisteredShows = (rows : Rows) (s : Ideal) (identifier : Bytes) (set : KeySet) (account generation : Change)
    → ShowsAccounts rows s.accounts → PutsAccount account generation (length s.accounts + 1) identifier set
    → ShowsAccounts (rows_after rows (account ∷ generation ∷ [])) (after s (Register identifier set)).accounts

-- when an item's first version was accepted: this one, where there is none before it
abbrev pub created_of : Option Version → ℕ → ℕ
created_of None stamp = stamp
created_of (Some first) stamp = first.stamp

-- the change puts the row of the version that the draft becomes at this stamp, in the account of this number
pub record PutsVersion (change : Change) (number : ℕ) (a : Account) (d : Draft) (stamp : ℕ) : Type 0 where
  pub row : ItemRow
  pub puts : Puts change (key.Item d.uuid) (value.Item row)
  pub account : row.account ≡ number
  pub kind : row.kind ≡ d.kind
  pub updated : row.updated ≡ stamp
  pub created : row.created ≡ created_of (first_of d.uuid a.versions) stamp
  pub strings : ShowsStrings a.sets d.uuid row (body_under (sent_content d.latest d.posted) (length a.sets))

-- no two accounts have one identifier
abbrev pub AreApart : List Account → Type 0
AreApart accounts = (number other : ℕ) (a b : Account) → account_at number accounts ≡ Some a → account_at other accounts ≡ Some b
    → a.identifier ≡ b.identifier → number ≡ other

-- so it is after every legal list of moves
abbrev pub AccountsApart : Type 0
AccountsApart = (ms : List Move) → Legal ms → AreApart (end ms).accounts

abbrev pub AcceptedShows : Type 0
AcceptedShows = (rows : Rows) (s : Ideal) (device uuid : Bytes) (stamp : ℕ) (under : Option ℕ) (number : ℕ) (a : Account) (d : Draft) (change : Change)
    → ShowsAccounts rows s.accounts → AreApart s.accounts → IsTrue (allows s (Accept device uuid stamp under))
    → account_of s device ≡ Some a → account_at number s.accounts ≡ Some a → draft_at s device uuid ≡ Some d
    → PutsVersion change number a d stamp
    → ShowsAccounts (rows_after rows (change ∷ [])) (after s (Accept device uuid stamp under)).accounts

-- the new stamp is then the greatest
abbrev pub AcceptedLast : Type 0
AcceptedLast = (s : Ideal) (device uuid : Bytes) (stamp : ℕ) (under : Option ℕ)
    → AreApart s.accounts → IsTrue (allows s (Accept device uuid stamp under))
    → greatest 0 (stamps_in (after s (Accept device uuid stamp under)).accounts) ≡ stamp

-- the server's moves leave what each device's rows show

abbrev pub RegisterKeeps : Type 0
RegisterKeeps = (rows : Rows) (s : Ideal) (name identifier : Bytes) (set : KeySet)
    → IsTrue (allows s (Register identifier set)) → ShowsDevice rows s name → ShowsDevice rows (after s (Register identifier set)) name

abbrev pub AcceptKeeps : Type 0
AcceptKeeps = (rows : Rows) (s : Ideal) (name device uuid : Bytes) (stamp : ℕ) (under : Option ℕ)
    → ShowsDevice rows s name → ShowsDevice rows (after s (Accept device uuid stamp under)) name

-- a device

-- the changes put the rows of a device that comes to hold its first set, the account's of this number
pub record PutsOwner (owner present : Change) (a : Account) (number : ℕ) : Type 0 where
  pub row : OwnerRow
  pub owner_puts : Puts owner key.Owner (value.Owner row)
  pub identifier : row.identifier ≡ a.identifier
  pub set : SetRow
  pub present_puts : Puts present (key.Set Present) (value.Set set)
  pub set_is : IsSetRow a number set

abbrev pub JoinedShows : Type 0
JoinedShows = (rows : Rows) (s : Ideal) (name identifier : Bytes) (number : ℕ) (a : Account) (owner present : Change)
    → ShowsDevice rows s name → device_named s name ≡ None → account_named s identifier ≡ Some a → PutsOwner owner present a number
    → ShowsDevice (rows_after rows (owner ∷ present ∷ [])) (after s (Join name identifier number)) name

-- the device named has this account
pub record HasAccount (s : Ideal) (name : Bytes) (d : Device) (a : Account) : Type 0 where
  pub device : device_named s name ≡ Some d
  pub account : account_named s d.account ≡ Some a

-- the change puts a row of the device's account, whose tokens and next number are free
pub record PutsTokens (change : Change) (a : Account) : Type 0 where
  pub row : OwnerRow
  pub puts : Puts change key.Owner (value.Owner row)
  pub identifier : row.identifier ≡ a.identifier

abbrev pub TokensShow : Type 0
TokensShow = (rows : Rows) (s : Ideal) (name : Bytes) (d : Device) (a : Account) (change : Change)
    → ShowsDevice rows s name → HasAccount s name d a → PutsTokens change a → ShowsDevice (rows_after rows (change ∷ [])) s name

-- the change puts the row of a new item under this local number: nothing that it stands on, and its content sealed under the set
-- of this number
pub record PutsItem (change : Change) (local : ℕ) (sets : List KeySet) (number : ℕ) (uuid kind text : Bytes) : Type 0 where
  pub item : LocalItem
  pub puts : Puts change (key.Local local) (value.Local item)
  pub uuid_is : item.uuid ≡ uuid
  pub kind_is : item.kind ≡ kind
  pub base : item.base ≡ None
  pub no_body : item.body ≡ None
  pub strings : RowStrings
  pub latest : item.latest ≡ Some (body.Sealed strings)
  pub opens : OpensUnder sets number uuid (sealed_of strings) text
  pub posted : item.posted ≡ None

-- the device has neither a row of this number nor one of this item
pub record IsNewAt (rows : Rows) (local : ℕ) (uuid : Bytes) : Type 0 where
  pub free : rows (key.Local local) ≡ None
  pub other : (number : ℕ) (item : LocalItem) → rows (key.Local number) ≡ Some (value.Local item) → item.uuid ≢ uuid

abbrev pub EditedShows : Type 0
EditedShows = (rows : Rows) (s : Ideal) (name uuid kind text : Bytes) (local : ℕ) (d : Device) (a : Account) (change : Change)
    → ShowsDevice rows s name → HasAccount s name d a → IsNewAt rows local uuid
    → PutsItem change local a.sets (greatest 0 d.held) uuid kind text
    → ShowsDevice (rows_after rows (change ∷ [])) (after s (Edit name uuid kind None (Plain text))) name

-- the change puts this row of an item again as one whose content was sent
pub record PutsPosted (change : Change) (local : ℕ) (item : LocalItem) : Type 0 where
  pub sent : LocalItem
  pub puts : Puts change (key.Local local) (value.Local sent)
  pub uuid_is : sent.uuid ≡ item.uuid
  pub kind_is : sent.kind ≡ item.kind
  pub base : sent.base ≡ item.base
  pub same_body : sent.body ≡ item.body
  pub stale : sent.stale ≡ item.stale
  pub latest : sent.latest ≡ item.latest
  pub posted : sent.posted ≡ item.latest

abbrev pub PostedShows : Type 0
PostedShows = (rows : Rows) (s : Ideal) (name : Bytes) (local : ℕ) (item : LocalItem) (change : Change)
    → ShowsDevice rows s name → rows (key.Local local) ≡ Some (value.Local item) → item.latest ≢ None → item.posted ≡ None
    → PutsPosted change local item
    → ShowsDevice (rows_after rows (change ∷ [])) (after s (Post name item.uuid)) name

-- the change puts a row of an item without a draft, which stands on the version of this stamp
pub record PutsSettled (change : Change) (local : ℕ) (a : Account) (number : ℕ) (uuid : Bytes) (stamp : ℕ) : Type 0 where
  pub item : LocalItem
  pub puts : Puts change (key.Local local) (value.Local item)
  pub uuid_is : item.uuid ≡ uuid
  pub base : item.base ≡ Some stamp
  pub on : IsBase a number item stamp
  pub latest : item.latest ≡ None
  pub posted : item.posted ≡ None

abbrev pub SettledShows : Type 0
SettledShows = (rows : Rows) (s : Ideal) (name : Bytes) (local : ℕ) (item : LocalItem) (stamp : ℕ) (d : Device) (a : Account) (change : Change)
    → ShowsDevice rows s name → HasAccount s name d a → rows (key.Local local) ≡ Some (value.Local item)
    → PutsSettled change local a (greatest 0 d.held) item.uuid stamp
    → ShowsDevice (rows_after rows (change ∷ [])) (after s (Settle name item.uuid)) name

-- a device's moves leave what the rows of every other device show

abbrev pub JoinKeeps : Type 0
JoinKeeps = (rows : Rows) (s : Ideal) (name other identifier : Bytes) (number : ℕ)
    → other ≢ name → ShowsDevice rows s other → ShowsDevice rows (after s (Join name identifier number)) other

abbrev pub EditKeeps : Type 0
EditKeeps = (rows : Rows) (s : Ideal) (name other uuid kind text : Bytes)
    → other ≢ name → draft_at s name uuid ≡ None
    → ShowsDevice rows s other → ShowsDevice rows (after s (Edit name uuid kind None (Plain text))) other

abbrev pub PostKeeps : Type 0
PostKeeps = (rows : Rows) (s : Ideal) (name other uuid : Bytes)
    → other ≢ name → ShowsDevice rows s other → ShowsDevice rows (after s (Post name uuid)) other

abbrev pub SettleKeeps : Type 0
SettleKeeps = (rows : Rows) (s : Ideal) (name other uuid : Bytes)
    → other ≢ name → ShowsDevice rows s other → ShowsDevice rows (after s (Settle name uuid)) other

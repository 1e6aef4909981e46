-- The rule of a sync.
use Rattle.std.specs.Prelude.{◌≡◌, ◌≢◌, ◌⊎◌, ℕ, ◌<◌, ◌≤◌, Bool, true, false, List, [], ◌∷◌, ◌++◌, length, codes, Option, Some, None, All}
use Rattle.sn_rows.specs.Table.{Puts, Rows}
use Rattle.sn_rows.specs.declared.change.Change.{Change}
use Rattle.sn_rows.specs.declared.key.Key.TheVariants as key
use Rattle.sn_rows.specs.declared.server_rows.StoreRow.{StoreRow}
use Rattle.sn_rows.specs.declared.value.Value.TheVariants as value
pub use Rattle.sn_string.specs.Bounds.{most_string}
use Rattle.sn_string.specs.declared.params.Params.{Params}
use Rattle.sn_sync.specs.Tokens.{IsToken}
pub use Rattle.sn_sync.specs.Versions.{AreShort, IsShort, strings_in}
use Rattle.sn_sync.specs.declared.answer.Answer.{Answer}
use Rattle.sn_sync.specs.declared.answer.Answer.TheVariants as answer
use Rattle.sn_sync.specs.declared.answer.More.TheVariants as more
use Rattle.sn_sync.specs.declared.item.Item.{Item}
use Rattle.sn_account.specs.Incoming.{Progress, RunsOut, TakesAll}
use Rattle.sn_account.specs.Lookups.{Bytes}
use Rattle.sn_account.specs.Pages.{AreGiven, Found, IsGreatest, IsLastOf, IsPage}
use Rattle.sn_account.specs.Rules.{IsBadAuth, IsPresent, Refuses}
use Rattle.sn_account.specs.Sessions.{IsNoSession, IsSession}

-- ---- tokens

-- a token is left out, or is one of this stamp
abbrev pub IsStampOf : Option Bytes → Option ℕ → Type 0
IsStampOf None stamp = stamp ≡ None
IsStampOf (Some text) None = ⊥
IsStampOf (Some text) (Some stamp) = IsToken text stamp

-- a token is given, and is none of any stamp
abbrev pub IsBadToken : Option Bytes → Type 0
IsBadToken given = (stamp : Option ℕ) → ¬ (IsStampOf given stamp)

-- the stamp above which the page begins
abbrev pub above_of : Option ℕ → Option ℕ → ℕ
above_of sync (Some stamp) = stamp
above_of (Some stamp) None = stamp
above_of None None = 0

-- whether it is a first page
abbrev pub is_first : Option ℕ → Option ℕ → Bool
is_first None None = true
is_first sync cursor = false

-- ---- bounds

abbrev pub most_items : ℕ
most_items = 500

abbrev pub NoneLong : List Item → Type 0
NoneLong items = All (λ i. AreShort (strings_in i.body)) items

-- the first of these strings that is too long has so many bytes
pub record IsFirstLongIn (strings : List Bytes) (size : ℕ) : Type 0 where
  pub short : List Bytes
  pub long : Bytes
  pub others : List Bytes
  pub split : strings ≡ short ++ long ∷ others
  pub before : AreShort short
  pub past : most_string < length long
  pub size_is : size ≡ length long

-- the first string that is too long is one of the item of this uuid
pub record IsFirstLong (items : List Item) (uuid : Bytes) (size : ℕ) : Type 0 where
  pub front : List Item
  pub item : Item
  pub later : List Item
  pub split : items ≡ front ++ item ∷ later
  pub before : NoneLong front
  pub long : IsFirstLongIn (strings_in item.body) size
  pub uuid_is : uuid ≡ item.uuid

-- ---- changes and answer

-- those that were made, and at their end the store's row with the last stamp, where any was made
abbrev pub AreChanges : StoreRow → List Change → ℕ → List Change → Type 0
AreChanges store made last changes = ((made ≡ []) × (changes ≡ []))
    ⊎ ((made ≢ []) × ((end : Change) × (row : StoreRow) × Puts end key.Store (value.Store row)
    × (row.secret ≡ store.secret) × (row.accounts ≡ store.accounts) × (row.last ≡ last) × (changes ≡ made ++ end ∷ [])))

-- before the first item
abbrev pub start : Rows → StoreRow → Progress
start rows store = record { rows = rows; last = store.last; changes = []; saved = []; conflicts = []; bytes = 0 }

-- where something is left the cursor is the last stamp given, and the token too; else there is none, and the token is the account's
-- greatest stamp after the items
abbrev pub AreTokens : Rows → ℕ → List Found → List Found → Option Bytes → Bytes → Type 0
AreTokens after n page [] cursor token = (cursor ≡ None) × ((stamp : ℕ) × IsGreatest after n stamp × IsToken token stamp)
AreTokens after n page (f ∷ left) cursor token = (cursor ≡ Some token) × ((stamp : ℕ) × IsLastOf page stamp × IsToken token stamp)

-- the page of the rows before, then the items in order
pub record Synced (rows : Rows) (store : StoreRow) (n : ℕ) (present : Params) (items : List Item) (limit : ℕ) (sync cursor : Option ℕ) (now : ℕ)
    (changes : List Change) (given : Answer) : Type 0 where
  pub page : List Found
  pub left : List Found
  pub is_page : IsPage rows n (above_of sync cursor) (is_first sync cursor) limit page left
  pub retrieved : List Item
  pub retrieved_are : AreGiven page retrieved
  pub end : Progress
  pub taken : TakesAll present now n (start rows store) items end
  pub changes_are : AreChanges store end.changes end.last changes
  pub cursor_token : Option Bytes
  pub sync_token : Bytes
  pub tokens : AreTokens end.rows n page left cursor_token sync_token
  pub answers : given ≡ answer.Sync end.conflicts cursor_token retrieved end.saved sync_token

-- ---- the order of refusals, from the last to the first

-- refused where the stamps are used up, with the last one before the request, since no item of it is accepted; else served
abbrev pub Serves : Rows → StoreRow → ℕ → List Item → ℕ → Option ℕ → Option ℕ → ℕ → List Change → Answer → Type 0
Serves rows store n items limit sync cursor now changes given =
    (present : Params) × IsPresent rows n present
    × ((RunsOut present now n (start rows store) items × Refuses 409 (codes "stamps-used") (more.Number store.last) changes given)
    ⊎ Synced rows store n present items limit sync cursor now changes given)

-- refused by the number of items, then by the length of a string
abbrev pub ServesBounded : Rows → StoreRow → ℕ → List Item → ℕ → Option ℕ → Option ℕ → ℕ → List Change → Answer → Type 0
ServesBounded rows store n items limit sync cursor now changes given =
    ((most_items < length items) × Refuses 413 (codes "wide") (more.Number (length items)) changes given)
    ⊎ ((length items ≤ most_items) × (uuid : Bytes) × (size : ℕ) × IsFirstLong items uuid size
    × Refuses 413 (codes "long") (more.Both size uuid) changes given)
    ⊎ ((length items ≤ most_items) × NoneLong items × Serves rows store n items limit sync cursor now changes given)

-- refused by the sync token, then by the cursor
abbrev pub ServesFrom : Rows → StoreRow → ℕ → List Item → ℕ → Option Bytes → Option Bytes → ℕ → List Change → Answer → Type 0
ServesFrom rows store n items limit sync_token cursor_token now changes given =
    (IsBadToken sync_token × Refuses 400 (codes "bad-token") (more.Name (codes "sync_token")) changes given)
    ⊎ ((sync : Option ℕ) × IsStampOf sync_token sync × IsBadToken cursor_token
    × Refuses 400 (codes "bad-token") (more.Name (codes "cursor_token")) changes given)
    ⊎ ((sync : Option ℕ) × (cursor : Option ℕ) × IsStampOf sync_token sync × IsStampOf cursor_token cursor
    × ServesBounded rows store n items limit sync cursor now changes given)

-- the session token is no account's present one; else as said
abbrev pub Syncs : Rows → StoreRow → Bytes → List Item → ℕ → Option Bytes → Option Bytes → ℕ → List Change → Answer → Type 0
Syncs rows store token items limit sync_token cursor_token now changes given =
    (IsNoSession rows token × IsBadAuth changes given)
    ⊎ ((n : ℕ) × IsSession rows token n × ServesFrom rows store n items limit sync_token cursor_token now changes given)

-- What an answer to a sync tells a device of the rows that it leaves.
use Rattle.std.specs.Prelude.{◌≡◌, ◌≢◌, ◌⊎◌, ℕ, ◌<◌, ◌≤◌, Bool, true, List, Option, Some, None}
use Rattle.std.specs.List.{Contains}
use Rattle.sn_rows.specs.Table.{Rows, rows_after}
use Rattle.sn_rows.specs.declared.change.Change.{Change}
use Rattle.sn_rows.specs.declared.server_rows.ItemRow.{ItemRow}
use Rattle.sn_rows.specs.declared.server_rows.StoreRow.{StoreRow}
use Rattle.sn_string.specs.declared.params.Params.{Params}
use Rattle.sn_sync.specs.Tokens.{IsToken}
pub use Rattle.sn_sync.specs.Versions.{AreApart, conflict_uuids, item_of, uuids}
use Rattle.sn_sync.specs.declared.answer.Answer.TheVariants as answer
use Rattle.sn_sync.specs.declared.answer.Conflict.{Conflict}
use Rattle.sn_sync.specs.declared.answer.Conflict.TheVariants as conflict
use Rattle.sn_sync.specs.declared.item.Body.TheVariants.{Deleted}
use Rattle.sn_sync.specs.declared.item.Item.{Item}
use Rattle.sn_sync.specs.declared.request.Request.TheVariants as request
use Rattle.sn_account.specs.Incoming.{IsOwnBody}
use Rattle.sn_account.specs.Lookups.{Bytes, HasItem, HasStore}
use Rattle.sn_account.specs.Rule.{Rule}
use Rattle.sn_account.specs.Rules.{IsPresent}
use Rattle.sn_account.specs.Sessions.{IsSession}
use Rattle.sn_account.specs.Sound.{IsSound}
use Rattle.sn_account.specs.Stored.{IsGiven}
use Rattle.sn_account.specs.Syncs.{IsStampOf, above_of, is_first}

-- the account has the item so
abbrev pub IsStored : Rows → ℕ → Item → Type 0
IsStored rows n i = (row : ItemRow) × HasItem rows i.uuid row × (row.account ≡ n) × IsGiven i.uuid row i

-- it is another's
abbrev pub IsOthers : Rows → ℕ → Bytes → Type 0
IsOthers rows n uuid = (row : ItemRow) × HasItem rows uuid row × (row.account ≢ n)

-- what is saved of a sent item: the strings sent, and the type where it is live
pub record IsSavedOf (sent i : Item) : Type 0 where
  pub uuid : i.uuid ≡ sent.uuid
  pub body : i.body ≡ sent.body
  pub kind : sent.body ≢ Deleted → i.kind ≡ sent.kind

abbrev pub TellsConflict : Rows → ℕ → Params → List Item → Conflict → Type 0
TellsConflict rows n present sent (conflict.Sync server) = IsStored rows n server × Contains (uuids sent) server.uuid
TellsConflict rows n present sent (conflict.Uuid unsaved) = Contains sent unsaved × IsOthers rows n unsaved.uuid
TellsConflict rows n present sent (conflict.Content unsaved) = Contains sent unsaved × ¬ (IsOwnBody unsaved.uuid present unsaved.body)

-- of account n, with the rows as they are left, for what was sent, from a stamp on
pub record TellsRows (rows : Rows) (n : ℕ) (present : Params) (sent : List Item) (above : ℕ) (first : Bool)
    (conflicts : List Conflict) (cursor : Option Bytes) (retrieved saved : List Item) (token : Bytes) : Type 0 where
  -- a uuid that was sent is saved or conflicts once at most
  pub saved_apart : AreApart (uuids saved)
  pub conflicts_apart : AreApart (conflict_uuids conflicts)
  pub disjoint : (u : Bytes) → Contains (uuids saved) u → ¬ (Contains (conflict_uuids conflicts) u)
  pub saved_are : (i : Item) → Contains saved i → IsStored rows n i × ((s : Item) × Contains sent s × IsSavedOf s i)
  pub conflicts_are : (c : Conflict) → Contains conflicts c → TellsConflict rows n present sent c
  -- a page is older than what is saved
  pub retrieved_are : (i : Item) → Contains retrieved i → IsStored rows n i ⊎ Contains (uuids saved) i.uuid
  -- all that the account has up to the token's stamp is told, but for deleted ones in a first page
  pub stamp : ℕ
  pub token_is : IsToken token stamp
  pub told : (u : Bytes) (row : ItemRow) → HasItem rows u row → row.account ≡ n → above < row.updated → row.updated ≤ stamp
      → Contains (uuids saved) u ⊎ ((i : Item) × Contains retrieved i × IsGiven u row i) ⊎ ((row.deleted ≡ true) × (first ≡ true))
  pub cursor_is : (cursor ≡ None) ⊎ (cursor ≡ Some token)
  pub whole : cursor ≡ None → (u : Bytes) (row : ItemRow) → HasItem rows u row → row.account ≡ n → row.updated ≤ stamp
  -- no stamp to come is told
  pub given : (store : StoreRow) → HasStore rows store → stamp ≤ store.last

-- an answer to a sync whose items have different uuids
abbrev pub SyncsTell : Type 0
SyncsTell = (rows : Rows) (token : Bytes) (sent : List Item) (limit : ℕ) (sync_token cursor_token : Option Bytes) (now : ℕ)
    (changes : List Change) (conflicts : List Conflict) (cursor : Option Bytes) (retrieved saved : List Item) (next : Bytes)
    → IsSound rows → AreApart (uuids sent)
    → Rule rows (request.Sync token sent limit sync_token cursor_token) now changes (answer.Sync conflicts cursor retrieved saved next)
    → (n : ℕ) × (present : Params) × (sync : Option ℕ) × (from : Option ℕ) × IsSession rows token n × IsPresent rows n present
    × IsStampOf sync_token sync × IsStampOf cursor_token from
    × TellsRows (rows_after rows changes) n present sent (above_of sync from) (is_first sync from) conflicts cursor retrieved saved next

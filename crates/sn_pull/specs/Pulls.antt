-- A whole pull: a sync of a device that has nothing to send, over the honest server; when it may begin, and what it leaves.
use Rattle.std.specs.Prelude.{◌≡◌, ◌⊎◌, ◌≤◌, ℕ, List, [], false, true, Some, None, length}
use Rattle.rand_chacha.specs.ChaCha.{ChaCha}
use Rattle.sn_account.specs.Lookups.{HasItem as HasStored, HasStore}
use Rattle.sn_account.specs.Pages.{IsGreatest}
use Rattle.sn_account.specs.Sessions.{IsSession}
use Rattle.sn_device.specs.Runs.{Act, Halt, answered, broken, most_exchanges, nothing, refused, rows_done}
use Rattle.sn_device.specs.Sending.{NoneWaits}
use Rattle.sn_device.specs.States.{Bytes, HasItem, HasLocal, HasSets, IsFree, owner_columns}
use Rattle.sn_device.specs.Steps.{What, with_tokens}
use Rattle.sn_device.specs.Taking.{last_number}
use Rattle.sn_device.specs.declared.error.ClientError.TheVariants as refusal
use Rattle.sn_pull.specs.Serving.{EndsLost, requests_in}
use Rattle.sn_rows.specs.Table.{Rows}
use Rattle.sn_rows.specs.declared.body.RowBody.TheVariants as body
use Rattle.sn_rows.specs.declared.body.RowStrings.{RowStrings}
use Rattle.sn_rows.specs.declared.change.Change.{Change}
use Rattle.sn_rows.specs.declared.device_rows.LocalItem.{LocalItem}
use Rattle.sn_rows.specs.declared.device_rows.OwnerRow.{OwnerRow}
use Rattle.sn_rows.specs.declared.server_rows.ItemRow.{ItemRow}
use Rattle.sn_rows.specs.declared.server_rows.StoreRow.{StoreRow}
use Rattle.sn_sets.specs.declared.sets.Sets.{Sets}
use Rattle.sn_sync.specs.Tokens.{IsToken}

-- ---- items of the account, and rows of the device

-- the last version of the item that the account of this number has under this uuid
abbrev pub Has : Rows → ℕ → Bytes → ItemRow → Type 0
Has server n uuid version = HasStored server uuid version × (version.account ≡ n)

-- the device's row stands on this version, which isn't a deletion: it has its type, its stamp and its two strings
pub record StandsOnVersion (version : ItemRow) (local : LocalItem) : Type 0 where
  pub undeleted : version.deleted ≡ false
  pub kind_is : local.kind ≡ version.kind
  pub base_is : local.base ≡ Some version.updated
  pub strings : RowStrings
  pub body_is : local.body ≡ Some (body.Sealed strings)
  pub content_is : strings.content ≡ version.content
  pub enc_is : strings.enc ≡ version.enc

-- the device has the version: the row of its uuid stands on it, or no row has the uuid where the version is a deletion
abbrev pub IsPulled : Rows → Bytes → ItemRow → Type 0
IsPulled rows uuid version = ((version.deleted ≡ true) × IsFree rows uuid)
    ⊎ ((number : ℕ) × (local : LocalItem) × HasItem rows uuid number local × StandsOnVersion version local)

-- the account has the row's uuid, at a stamp not below the one on which the row stands, and at that stamp the same version
pub record IsOfAccount (server : Rows) (n : ℕ) (local : LocalItem) : Type 0 where
  pub version : ItemRow
  pub there : Has server n local.uuid version
  pub not_below : (base : ℕ) → local.base ≡ Some base → base ≤ version.updated
  pub level : local.base ≡ Some version.updated → StandsOnVersion version local

-- ---- before a pull

-- the device asks for a first page: it has no items, and no tokens of a sync
pub record BeginsFirst (rows : Rows) (owner : OwnerRow) : Type 0 where
  pub no_items : (number : ℕ) (local : LocalItem) → ¬ (HasLocal rows number local)
  pub no_token : owner.sync_token ≡ []
  pub no_cursor : owner.cursor_token ≡ []

-- or for what is above a stamp: up to that it has the account's last versions, and what its rows stand on the account has, or a later version of it
pub record BeginsAbove (server rows : Rows) (n : ℕ) (owner : OwnerRow) : Type 0 where
  pub stamp : ℕ
  pub token_is : IsToken owner.sync_token stamp
  pub cursor_is : (owner.cursor_token ≡ []) ⊎ (owner.cursor_token ≡ owner.sync_token)
  pub pulled : (uuid : Bytes) (version : ItemRow) → Has server n uuid version → version.updated ≤ stamp → IsPulled rows uuid version
  pub of_account : (number : ℕ) (local : LocalItem) → HasLocal rows number local → IsOfAccount server n local

-- A device that may pull from account n. Which set the account's items are sealed under isn't asked, since a pull opens none of them
pub record MayPull (server rows : Rows) (n : ℕ) (owner : OwnerRow) (sets : Sets) : Type 0 where
  pub holds : HasSets rows owner sets
  -- its session token is the account's present one: else it is refused
  pub session : IsSession server owner.token n
  -- no change of password is under way: an older set would have items sealed again, and a set that is asked for is resolved first
  pub no_older : sets.older ≡ None
  pub no_asked : sets.asked ≡ None
  -- no draft, and nothing that is to be sealed again on the server: else there is something to send
  pub none_waits : NoneWaits rows
  -- the account's uuid has 16 bytes, as each uuid that a program has: so a commit of the device's own row is no longer than a batch
  pub account_fits : length owner.account ≡ 16
  pub begins : BeginsFirst rows owner ⊎ BeginsAbove server rows n owner

-- the sync token's stamp is one that the server has given: none to come is at or below it
abbrev pub IsTokenGiven : Rows → OwnerRow → Type 0
IsTokenGiven server owner = (store : StoreRow) (stamp : ℕ) → HasStore server store → IsToken owner.sync_token stamp → stamp ≤ store.last

-- ---- after it

-- the device's items are just the account's undeleted last versions, each in one row, without drafts
pub record AreLastVersions (server rows : Rows) (n : ℕ) : Type 0 where
  pub each : (uuid : Bytes) (version : ItemRow) → Has server n uuid version → version.deleted ≡ false
      → (number : ℕ) × (local : LocalItem) × HasItem rows uuid number local × StandsOnVersion version local
  pub only : (number : ℕ) (local : LocalItem) → HasLocal rows number local → (version : ItemRow) × Has server n local.uuid version × StandsOnVersion version local
  pub once : (number other : ℕ) (local twin : LocalItem) → HasLocal rows number local → HasLocal rows other twin → local.uuid ≡ twin.uuid → number ≡ other
  pub clean : (number : ℕ) (local : LocalItem) → HasLocal rows number local → (local.latest ≡ None) × (local.posted ≡ None) × (local.stale ≡ false)

-- and its account, session token and sets are as they were, its sync token is that of the account's greatest stamp, and there is no cursor
pub record IsUpToDate (server rows : Rows) (n : ℕ) (before : OwnerRow) (sets : Sets) : Type 0 where
  pub items : AreLastVersions server rows n
  pub owner : OwnerRow
  pub holds : HasSets rows owner sets
  pub stamp : ℕ
  pub greatest : IsGreatest server n stamp
  pub token_is : IsToken owner.sync_token stamp
  pub columns_are : owner_columns owner ≡ with_tokens owner.next owner.sync_token None (owner_columns before)
  pub rises : before.next ≤ owner.next

-- all is pulled, and no words were drawn; or 10,000 pages were, and more are left; or the local numbers are used up; or memory is wanting; or the
-- disk failed; or the link, where the last reply was lost
abbrev pub EndsPull : Rows → Rows → ℕ → OwnerRow → Sets → ChaCha → List Act → Halt → Type 0
EndsPull server rows n owner sets words acts halt =
    ((halt ≡ answered nothing words) × IsUpToDate server (rows_done rows acts) n owner sets)
    ⊎ (((halt ≡ refused refusal.RoundsUsed) × (requests_in acts ≡ most_exchanges))
    ⊎ ((halt ≡ refused (refusal.NumbersUsed last_number)) ⊎ ((halt ≡ refused refusal.Memory)
    ⊎ (((what : What) × (changes : List Change) × (halt ≡ broken what changes))
    ⊎ ((halt ≡ refused refusal.LinkFault) × EndsLost acts)))))

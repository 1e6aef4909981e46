-- A version of the server's that has a draft's content: the draft ends.
use Rattle.std.specs.Prelude.{◌≡◌, ℕ, List, [], ◌∷◌, Option, Some, None, IsTrue}
use Rattle.rand_chacha.specs.ChaCha.{ChaCha}
use Rattle.sn_account.specs.Tells.{IsSavedOf, IsStored}
use Rattle.sn_conflict.specs.Meetings.{HasContent}
use Rattle.sn_items.specs.declared.sealed.Sealed.{Sealed}
use Rattle.sn_laws.specs.Lookups.{Bytes}
use Rattle.sn_laws.specs.Moves.{after, allows}
use Rattle.sn_laws.specs.declared.ideal.Account.{Account}
use Rattle.sn_laws.specs.declared.ideal.Device.{Device}
use Rattle.sn_laws.specs.declared.ideal.Ideal.{Ideal}
use Rattle.sn_laws.specs.declared.moves.Move.TheVariants.{Settle}
use Rattle.sn_rows.specs.Table.{Removes, Rows, key_of, rows_after}
use Rattle.sn_rows.specs.declared.body.RowBody.{RowBody}
use Rattle.sn_rows.specs.declared.change.Change.{Change}
use Rattle.sn_rows.specs.declared.device_rows.LocalItem.{LocalItem}
use Rattle.sn_rows.specs.declared.device_rows.OwnerRow.{OwnerRow}
use Rattle.sn_rows.specs.declared.key.Key.TheVariants as key
use Rattle.sn_sets.specs.declared.sets.Sets.{Sets}
use Rattle.sn_shows.specs.Devices.{ShowsDevice}
use Rattle.sn_shows.specs.Laws.{HasAccount}
use Rattle.sn_shows.specs.Servers.{ShowsAccounts, account_at}
use Rattle.sn_shows.specs.Sets.{OpensUnder}
use Rattle.sn_string.specs.declared.params.KeySet.{KeySet}
use Rattle.sn_sync.specs.declared.item.Body.TheVariants as body
use Rattle.sn_sync.specs.declared.item.Item.{Item}
use Rattle.sn_world.specs.Live.{LiveItem}
use Rattle.sn_world.specs.Making.{IsSentBy}
use Rattle.sn_world.specs.Pulled.{PulledAt}
use Rattle.sn_device.specs.Sending.{PutsColumns}
use Rattle.sn_device.specs.States.{Columns, HasItem, HasLocal, HasSets}
use Rattle.sn_device.specs.Taking.{StandsOn}

-- strings open under one of an account's sets at most
abbrev pub OneSet : List KeySet → Type 0
OneSet sets = (sealed : Sealed) (uuid : Bytes) (k m : ℕ) (a b : Bytes) → OpensUnder sets k uuid sealed a → OpensUnder sets m uuid sealed b → k ≡ m

-- the item of account n as the server has it now, the device's row of it, and the row's draft
pub record MeetsStored (server device : Rows) (s : Ideal) (name : Bytes) (n number : ℕ) (a : Account) (d : Device) (local : LocalItem) (i : Item) : Type 0 where
  pub one_set : OneSet a.sets
  pub accounts : ShowsAccounts server s.accounts
  pub at : account_at n s.accounts ≡ Some a
  pub has : HasAccount s name d a
  pub shows : ShowsDevice device s name
  pub owner : OwnerRow
  pub sets : Sets
  pub holds : HasSets device owner sets
  pub stands : HasItem device i.uuid number local
  pub latest : RowBody
  pub latest_is : local.latest ≡ Some latest
  pub stored : IsStored server n i

-- and the draft has its content
pub record MeetsOwnLast (server device : Rows) (s : Ideal) (name : Bytes) (n number : ℕ) (a : Account) (d : Device) (local : LocalItem) (i : Item) : Type 0 where
  pub meets : MeetsStored server device s name n number a d local i
  pub same : HasContent meets.sets local meets.latest i

-- on a device that holds these sets the change puts the row with the item's strings, with this draft or without one, and with nothing sent of it
pub record TakesLast (sets : Sets) (change : Change) (number : ℕ) (i : Item) (latest : Option RowBody) : Type 0 where
  pub content : Bytes
  pub enc : Bytes
  pub body_is : i.body ≡ body.Strings content enc
  pub words : ChaCha
  pub left : ChaCha
  pub columns_then : Columns
  pub stands_on : StandsOn sets words i content enc latest None columns_then left
  pub puts : PutsColumns change number columns_then

-- ---- the laws, on one device's rows

-- the draft may be settled, the rows then show the state after it, and the item's row is the last version, up to any stamp
abbrev pub SettlesOwn : Type 0
SettlesOwn = (server device : Rows) (s : Ideal) (name : Bytes) (n number : ℕ) (a : Account) (d : Device) (local : LocalItem) (i : Item) (change : Change)
    → (x : MeetsOwnLast server device s name n number a d local i) → TakesLast x.meets.sets change number i None
    → IsTrue (allows s (Settle name i.uuid)) × ShowsDevice (rows_after device (change ∷ [])) (after s (Settle name i.uuid)) name
    × ((upto : ℕ) → PulledAt (rows_after device (change ∷ [])) a upto i.uuid)

-- a deletion that the draft had: the row goes
abbrev pub SettlesGone : Type 0
SettlesGone = (server device : Rows) (s : Ideal) (name : Bytes) (n number : ℕ) (a : Account) (d : Device) (local : LocalItem) (i : Item) (change : Change)
    → MeetsOwnLast server device s name n number a d local i → i.body ≡ body.Deleted → Removes change (key.Local number)
    → IsTrue (allows s (Settle name i.uuid)) × ShowsDevice (rows_after device (change ∷ [])) (after s (Settle name i.uuid)) name
    × ((upto : ℕ) → PulledAt (rows_after device (change ∷ [])) a upto i.uuid)

-- what is saved is what a row sent: whatever the change leaves of that row, what was live of the device is live
abbrev pub AppliesLive : Type 0
AppliesLive = (server device : Rows) (accounts : List Account) (n number : ℕ) (local : LocalItem) (sent saved j : Item) (change : Change)
    → HasLocal device number local → IsSentBy local sent → IsStored server n saved → IsSavedOf sent saved → key_of change ≡ key.Local number
    → LiveItem (server (key.Item j.uuid)) device accounts n j → LiveItem (server (key.Item j.uuid)) (rows_after device (change ∷ [])) accounts n j

-- What the adoption of a key set, the end of an older one, and what was sent make of a device's rows that show a state: they show the state after its
-- moves.
use Rattle.std.specs.Prelude.{◌≡◌, ◌≢◌, ◌<◌, ◌⊎◌, ℕ, true, List, [], ◌∷◌, Option, Some, None}
use Rattle.sn_laws.specs.Lookups.{Bytes, draft_at}
use Rattle.sn_laws.specs.Moves.{after}
use Rattle.sn_laws.specs.Reached.{NoncesApart}
use Rattle.sn_laws.specs.declared.ideal.Account.{Account}
use Rattle.sn_laws.specs.declared.ideal.Device.{Device}
use Rattle.sn_laws.specs.declared.ideal.Draft.{Draft}
use Rattle.sn_laws.specs.declared.ideal.Ideal.{Ideal}
use Rattle.sn_laws.specs.declared.ideal.Posted.{Posted}
use Rattle.sn_laws.specs.declared.moves.Move.TheVariants.{Join, Post, Retire, Unpost}
use Rattle.sn_rows.specs.Table.{Removes, Rows, rows_after}
use Rattle.sn_rows.specs.declared.body.RowBody.{RowBody}
use Rattle.sn_rows.specs.declared.body.RowBody.TheVariants as body
use Rattle.sn_rows.specs.declared.body.RowStrings.{RowStrings}
use Rattle.sn_rows.specs.declared.change.Change.{Change}
use Rattle.sn_rows.specs.declared.device_rows.LocalItem.{LocalItem}
use Rattle.sn_rows.specs.declared.device_rows.SetRow.{SetRow}
use Rattle.sn_rows.specs.declared.key.Key.{Key}
use Rattle.sn_rows.specs.declared.key.Key.TheVariants as key
use Rattle.sn_rows.specs.declared.key.Slot.TheVariants.{Older}
use Rattle.sn_rows.specs.declared.value.Value.TheVariants as value
use Rattle.sn_sets.specs.Sets.{sealed_of}
use Rattle.sn_string.specs.declared.params.KeySet.{KeySet}
use Rattle.sn_shows.specs.Devices.{IsDeviceKey, IsSetRow, ShowsDevice, ShowsOwner, ShowsPresent}
use Rattle.sn_shows.specs.Laws.{HasAccount}
use Rattle.sn_shows.specs.Sets.{OpensUnder}

-- ---- a set is adopted: one place of an item's row

-- strings that open under the set `old` are sealed again: they open to the same under the set `number`
pub record IsSealedAgain (sets : List KeySet) (old number : ℕ) (uuid : Bytes) (before later : Option RowBody) : Type 0 where
  pub given : RowStrings
  pub given_is : before ≡ Some (body.Sealed given)
  pub text : Bytes
  pub opens : OpensUnder sets old uuid (sealed_of given) text
  pub again : RowStrings
  pub again_is : later ≡ Some (body.Sealed again)
  pub still : OpensUnder sets number uuid (sealed_of again) text

-- nothing is there, or a deletion, or strings that don't open under this set
abbrev pub IsClosedUnder : List KeySet → ℕ → Bytes → Option RowBody → Type 0
IsClosedUnder sets old uuid None = Unit {0}
IsClosedUnder sets old uuid (Some body.Deleted) = Unit {0}
IsClosedUnder sets old uuid (Some (body.Sealed strings)) = (text : Bytes) → ¬ (OpensUnder sets old uuid (sealed_of strings) text)

-- then it stays as it is
pub record IsLeft (sets : List KeySet) (old : ℕ) (uuid : Bytes) (before later : Option RowBody) : Type 0 where
  pub closed : IsClosedUnder sets old uuid before
  pub same : later ≡ before

-- what becomes of a draft, and of what was sent of it
abbrev pub IsCarried : List KeySet → ℕ → ℕ → Bytes → Option RowBody → Option RowBody → Type 0
IsCarried sets old number uuid before later = IsSealedAgain sets old number uuid before later ⊎ IsLeft sets old uuid before later

-- ---- the row of an item

-- what becomes of the version that a row stands on: one that is sealed again is to be sent, so it is stale; one that is closed is what it was
abbrev pub CarriesBase : List KeySet → ℕ → ℕ → LocalItem → LocalItem → Type 0
CarriesBase sets old number item again =
    (IsSealedAgain sets old number item.uuid item.body again.body × (again.stale ≡ true))
    ⊎ (IsLeft sets old item.uuid item.body again.body × (again.stale ≡ item.stale))

-- the item's row again, where its device held the set `old` and adopts the set `number`: whatever opens is sealed under the new set
pub record IsAdopted (a : Account) (old number : ℕ) (item again : LocalItem) : Type 0 where
  pub uuid_is : again.uuid ≡ item.uuid
  pub kind_is : again.kind ≡ item.kind
  pub base_is : again.base ≡ item.base
  pub body_is : CarriesBase a.sets old number item again
  pub latest_is : IsCarried a.sets old number item.uuid item.latest again.latest
  pub posted_is : IsCarried a.sets old number item.uuid item.posted again.posted

-- ---- the rows of the device

-- the row is that of an item that had one before, under the same number
pub record WasAdopted (rows : Rows) (a : Account) (old number local : ℕ) (again : LocalItem) : Type 0 where
  pub item : LocalItem
  pub stood : rows (key.Local local) ≡ Some (value.Local item)
  pub is : IsAdopted a old number item again

-- an item has a row under this number
abbrev pub HasItemAt : Rows → ℕ → Type 0
HasItemAt rows local = (item : LocalItem) × (rows (key.Local local) ≡ Some (value.Local item))

-- the later rows, of a device that held the set `old` and adopts the set `number`: its own row again, whose tokens and next number are free; the new
-- set is present and the other the older one; each item has its row again, and no other has one; no row of another kind is changed. Of a set that
-- was asked for nothing is said
pub record AdoptsSet (rows later : Rows) (a : Account) (old number : ℕ) : Type 0 where
  pub owner : ShowsOwner later a
  pub present : ShowsPresent later a number
  pub older : SetRow
  pub older_stands : later (key.Set Older) ≡ Some (value.Set older)
  pub older_is : IsSetRow a old older
  pub items : (local : ℕ) (again : LocalItem) → later (key.Local local) ≡ Some (value.Local again) → WasAdopted rows a old number local again
  pub stay : (local : ℕ) → HasItemAt rows local → HasItemAt later local
  pub others : (k : Key) → ¬ (IsDeviceKey k) → later k ≡ rows k

-- a device that holds one set comes to hold a later one too
abbrev pub AdoptedShows : Type 0
AdoptedShows = (rows later : Rows) (s : Ideal) (name : Bytes) (d : Device) (a : Account) (old number : ℕ)
    → ShowsDevice rows s name → HasAccount s name d a → d.held ≡ old ∷ [] → old < number → NoncesApart a → AdoptsSet rows later a old number
    → ShowsDevice later (after s (Join name a.identifier number)) name

-- ---- what was sent of a draft

-- it loses the number of its set, which no row says
abbrev pub UnpostedShows : Type 0
UnpostedShows = (rows : Rows) (s : Ideal) (name uuid : Bytes) → ShowsDevice rows s name → ShowsDevice rows (after s (Unpost name uuid)) name

-- and is sent again as it was, which gives it another number
abbrev pub RepostedShows : Type 0
RepostedShows = (rows : Rows) (s : Ideal) (name uuid : Bytes) (draft : Draft) (p : Posted)
    → ShowsDevice rows s name → draft_at s name uuid ≡ Some draft → draft.posted ≡ Some p → ShowsDevice rows (after s (Post name uuid)) name

-- ---- the end of an older set

-- the older set's row goes, and with it nothing else: what an item's row stands on opens under the set of its version, held or not
abbrev pub RetiredShows : Type 0
RetiredShows = (rows : Rows) (s : Ideal) (name : Bytes) (d : Device) (a : Account) (older present : ℕ) (change : Change)
    → ShowsDevice rows s name → HasAccount s name d a → d.held ≡ older ∷ present ∷ [] → older < present → Removes change (key.Set Older)
    → ShowsDevice (rows_after rows (change ∷ [])) (after s (Retire name older)) name

-- ---- these moves leave what the rows of every other device show

abbrev pub UnpostKeeps : Type 0
UnpostKeeps = (rows : Rows) (s : Ideal) (name other uuid : Bytes)
    → other ≢ name → ShowsDevice rows s other → ShowsDevice rows (after s (Unpost name uuid)) other

abbrev pub RetireKeeps : Type 0
RetireKeeps = (rows : Rows) (s : Ideal) (name other : Bytes) (number : ℕ)
    → other ≢ name → ShowsDevice rows s other → ShowsDevice rows (after s (Retire name number)) other

-- What a draft that meets another version, or another account's item, makes of a device's rows: they show the state after its moves.
use Rattle.std.specs.Prelude.{◌≡◌, ◌≢◌, ℕ, [], ◌∷◌, Some, None}
use Rattle.sn_laws.specs.Lookups.{Bytes, draft_at, greatest}
use Rattle.sn_laws.specs.Moves.{after, copied}
use Rattle.sn_laws.specs.declared.ideal.Account.{Account}
use Rattle.sn_laws.specs.declared.ideal.Content.TheVariants.{Plain}
use Rattle.sn_laws.specs.declared.ideal.Device.{Device}
use Rattle.sn_laws.specs.declared.ideal.Draft.{Draft}
use Rattle.sn_laws.specs.declared.ideal.Ideal.{Ideal}
use Rattle.sn_laws.specs.declared.moves.Move.TheVariants.{Fork, Rename, Settle, SettlePosted}
use Rattle.sn_rows.specs.Table.{Puts, Removes, Rows, rows_after}
use Rattle.sn_rows.specs.declared.change.Change.{Change}
use Rattle.sn_rows.specs.declared.device_rows.LocalItem.{LocalItem}
use Rattle.sn_rows.specs.declared.key.Key.TheVariants as key
use Rattle.sn_rows.specs.declared.value.Value.TheVariants as value
use Rattle.sn_shows.specs.Devices.{IsBase, ShowsDevice}
use Rattle.sn_shows.specs.Laws.{HasAccount, IsNewAt, PutsItem}

-- ---- what was sent is answered

-- the change puts a row of an item again with its draft, of which nothing is sent any more, and which stands on the version of this stamp
pub record PutsAnswered (change : Change) (local : ℕ) (a : Account) (number : ℕ) (item : LocalItem) (stamp : ℕ) : Type 0 where
  pub again : LocalItem
  pub puts : Puts change (key.Local local) (value.Local again)
  pub uuid_is : again.uuid ≡ item.uuid
  pub kind_is : again.kind ≡ item.kind
  pub base : again.base ≡ Some stamp
  pub on : IsBase a number again stamp
  pub latest : again.latest ≡ item.latest
  pub posted : again.posted ≡ None

abbrev pub AnsweredShows : Type 0
AnsweredShows = (rows : Rows) (s : Ideal) (name : Bytes) (local : ℕ) (item : LocalItem) (stamp : ℕ) (d : Device) (a : Account) (change : Change)
    → ShowsDevice rows s name → HasAccount s name d a → rows (key.Local local) ≡ Some (value.Local item) → item.latest ≢ None
    → PutsAnswered change local a (greatest 0 d.held) item stamp
    → ShowsDevice (rows_after rows (change ∷ [])) (after s (SettlePosted name item.uuid stamp)) name

-- ---- a draft goes, with its row

abbrev pub RemovedShows : Type 0
RemovedShows = (rows : Rows) (s : Ideal) (name : Bytes) (local : ℕ) (item : LocalItem) (d : Device) (a : Account) (change : Change)
    → ShowsDevice rows s name → HasAccount s name d a → rows (key.Local local) ≡ Some (value.Local item) → Removes change (key.Local local)
    → ShowsDevice (rows_after rows (change ∷ [])) (after s (Settle name item.uuid)) name

-- ---- a draft gets another uuid

-- no row is of this item
abbrev pub HasNone : Rows → Bytes → Type 0
HasNone rows uuid = (number : ℕ) (item : LocalItem) → rows (key.Local number) ≡ Some (value.Local item) → item.uuid ≢ uuid

-- the row of a new item is that of another uuid, with the same content sealed for that
abbrev pub RenamedShows : Type 0
RenamedShows = (rows : Rows) (s : Ideal) (name other text : Bytes) (local : ℕ) (item : LocalItem) (draft : Draft) (d : Device) (a : Account) (change : Change)
    → ShowsDevice rows s name → HasAccount s name d a → rows (key.Local local) ≡ Some (value.Local item)
    → draft_at s name item.uuid ≡ Some draft → draft.base ≡ None → draft.latest ≡ Plain text
    → HasNone rows other → PutsItem change local a.sets (greatest 0 d.held) other item.kind text
    → ShowsDevice (rows_after rows (change ∷ [])) (after s (Rename name item.uuid other)) name

-- where the item's row has taken the version without its draft, the draft's copy is a new item
abbrev pub ForkedShows : Type 0
ForkedShows = (rows : Rows) (s : Ideal) (name uuid other kind text : Bytes) (fresh : ℕ) (draft : Draft) (d : Device) (a : Account) (change : Change)
    → ShowsDevice rows (after s (Settle name uuid)) name → HasAccount s name d a
    → draft_at s name uuid ≡ Some draft → draft.kind ≡ kind → copied draft.latest draft.uuid ≡ Plain text
    → draft_at s name other ≡ None → IsNewAt rows fresh other → PutsItem change fresh a.sets (greatest 0 d.held) other kind text
    → ShowsDevice (rows_after rows (change ∷ [])) (after s (Fork name uuid other)) name

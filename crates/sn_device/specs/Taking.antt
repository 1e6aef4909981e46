-- What an answer to a sync makes of a device's rows: each version of the server's meets the row of its item, and the row takes it, keeps its draft,
-- or gives the draft a row of its own.
use Rattle.std.specs.Prelude.{◌≡◌, ◌≢◌, ◌⊎◌, ◌^◌, ◌-◌, ℕ, suc, Bool, true, false, List, [], ◌∷◌, ◌++◌, map, Option, Some, None}
use Rattle.std.specs.List.{Contains}
use Rattle.rand_chacha.specs.ChaCha.{ChaCha}
use Rattle.sn_conflict.specs.Meetings.{MeetsAs}
use Rattle.sn_sync.specs.Versions.{NamesStamp, uuids}
use Rattle.sn_conflict.specs.declared.meeting.Meeting.{Meeting}
use Rattle.sn_conflict.specs.declared.meeting.Meeting.TheVariants as meeting
use Rattle.sn_items.specs.declared.sealed.Sealed.{Sealed}
use Rattle.sn_notes.specs.Copies.{copy_of}
use Rattle.sn_rekey.specs.Rewraps.{Rewraps}
use Rattle.sn_rows.specs.Table.{Removes, Rows, rows_after}
use Rattle.sn_rows.specs.declared.body.RowBody.{RowBody}
use Rattle.sn_rows.specs.declared.body.RowBody.TheVariants as row
use Rattle.sn_rows.specs.declared.body.RowStrings.{RowStrings}
use Rattle.sn_rows.specs.declared.change.Change.{Change}
use Rattle.sn_rows.specs.declared.device_rows.LocalItem.{LocalItem}
use Rattle.sn_rows.specs.declared.key.Key.TheVariants as key
use Rattle.sn_sets.specs.Seals.{Seals}
use Rattle.sn_sets.specs.Sets.{OpensHeld, OpensNowhere, OpensOlder, sealed_of}
use Rattle.sn_sets.specs.declared.sets.Sets.{Sets}
use Rattle.sn_sync.specs.declared.answer.Conflict.{Conflict}
use Rattle.sn_sync.specs.declared.answer.Conflict.TheVariants as conflict
use Rattle.sn_sync.specs.declared.item.Body.{Body}
use Rattle.sn_sync.specs.declared.item.Body.TheVariants as body
use Rattle.sn_sync.specs.declared.item.Item.{Item}
use Rattle.sn_device.specs.Draws.{DrawsFresh, DrawsNoFresh}
use Rattle.sn_device.specs.Sending.{PutsColumns}
use Rattle.sn_device.specs.States.{Bytes, Columns, HasItem, IsFree, columns}
use Rattle.sn_device.specs.declared.error.ClientError.{ClientError}
use Rattle.sn_device.specs.declared.error.ClientError.TheVariants as refusal

-- what the versions before have left: the rows, what was changed, the next local number, and the words
pub record Progress : Type 0 where
  pub rows : Rows
  pub changes : List Change
  pub next : ℕ
  pub words : ChaCha

-- after one change
abbrev pub changed : Progress → Change → Progress
changed p change = record p { rows = rows_after p.rows (change ∷ []); changes = p.changes ++ change ∷ [] }

abbrev pub with_words : Progress → ChaCha → Progress
with_words p words = record p { words = words }

-- after a change that puts a row of its own
abbrev pub made : Progress → Change → Progress
made p change = record p { rows = rows_after p.rows (change ∷ []); changes = p.changes ++ change ∷ []; next = suc p.next }

-- the last local number is never used
abbrev pub last_number : ℕ
last_number = 2 ^ 64 - 1

-- ---- a row takes the server's version

-- the version's strings as they are kept, and whether they are to be sent again: one that opens under the older set alone is sealed again under the
-- present one; each other one is kept as it is
abbrev pub IsKeptAs : Sets → ChaCha → Bytes → Sealed → RowStrings → Bool → ChaCha → Type 0
IsKeptAs sets words uuid given strings stale left =
    (((text : Bytes) → ¬ (OpensOlder sets uuid given text)) × (sealed_of strings ≡ given) × (stale ≡ false) × (left ≡ words))
    ⊎ ((text : Bytes) × (opens : OpensOlder sets uuid given text) × Rewraps words uuid text opens.set sets.present given (sealed_of strings) left
    × (stale ≡ true))

-- the columns of a row that stands on an undeleted version, with this draft
pub record StandsOn (sets : Sets) (words : ChaCha) (i : Item) (content enc : Bytes) (latest posted : Option RowBody) (c : Columns) (left : ChaCha)
    : Type 0 where
  pub uuid_is : c.uuid ≡ i.uuid
  pub kind_is : c.kind ≡ i.kind
  pub stamp : ℕ
  pub stamped : NamesStamp i stamp
  pub base_is : c.base ≡ Some stamp
  pub strings : RowStrings
  pub kept : IsKeptAs sets words i.uuid (record { content = content; enc = enc }) strings c.stale left
  pub body_is : c.body ≡ Some (row.Sealed strings)
  pub latest_is : c.latest ≡ latest
  pub posted_is : c.posted ≡ posted

-- the row of this number stands on the version, with this draft left to it; on a deletion no row stands
abbrev pub TakesBody : Sets → Progress → ℕ → Item → Body → Option RowBody → Option RowBody → Progress → Type 0
TakesBody sets p number i body.Deleted latest posted q = (change : Change) × Removes change (key.Local number) × (q ≡ changed p change)
TakesBody sets p number i (body.Strings content enc) latest posted q =
    (c : Columns) × (left : ChaCha) × (change : Change) × StandsOn sets p.words i content enc latest posted c left
    × PutsColumns change number c × (q ≡ with_words (changed p change) left)

abbrev pub TakesVersion : Sets → Progress → ℕ → Item → Option RowBody → Option RowBody → Progress → Type 0
TakesVersion sets p number i latest posted q = TakesBody sets p number i i.body latest posted q

-- ---- a draft gets a row of its own

-- a new item of this uuid, whose draft these strings are
abbrev pub new_columns : Bytes → Bytes → RowStrings → Columns
new_columns uuid kind strings = record {
  uuid = uuid;
  kind = kind;
  base = None;
  stale = false;
  body = None;
  latest = Some (row.Sealed strings);
  posted = None;
}

-- the copy of a draft's content, as a new item under the next local number
pub record Copies (sets : Sets) (p : Progress) (local : LocalItem) (q : Progress) : Type 0 where
  pub strings : RowStrings
  pub drafted : local.latest ≡ Some (row.Sealed strings)
  pub text : Bytes
  pub opens : OpensHeld sets local.uuid (sealed_of strings) text
  pub room : p.next ≢ last_number
  pub uuid : Bytes
  pub rest : ChaCha
  pub fresh : DrawsFresh p.rows p.words uuid rest
  pub copy : RowStrings
  pub left : ChaCha
  pub seals : Seals rest sets.present uuid (copy_of text local.uuid) copy left
  pub change : Change
  pub puts : PutsColumns change p.next (new_columns uuid local.kind copy)
  pub gives : q ≡ with_words (made p change) left

-- ---- the meeting's effect

abbrev pub Meets : Sets → Progress → ℕ → LocalItem → Item → Meeting → Progress → Type 0
-- nothing
Meets sets p number local i meeting.Same q = q ≡ p
-- there is no draft
Meets sets p number local i meeting.Take q = TakesVersion sets p number i None None q
-- the draft ends
Meets sets p number local i (meeting.Own true) q = TakesVersion sets p number i None None q
-- what was sent is answered; the draft stays
Meets sets p number local i (meeting.Own false) q = TakesVersion sets p number i local.latest None q
-- the draft, a deletion, ends
Meets sets p number local i meeting.GiveWay q = TakesVersion sets p number i None None q
-- the draft goes on as a copy of its own, and then the row takes the version
Meets sets p number local i meeting.Fork q = (r : Progress) × Copies sets p local r × TakesVersion sets r number i None None q

-- a version of an item that has no row: an undeleted one makes it
abbrev pub MakesRow : Sets → Progress → Item → Body → Progress → Type 0
MakesRow sets p i body.Deleted q = q ≡ p
MakesRow sets p i (body.Strings content enc) q =
    (p.next ≢ last_number) × (c : Columns) × (left : ChaCha) × (change : Change) × StandsOn sets p.words i content enc None None c left
    × PutsColumns change p.next c × (q ≡ with_words (made p change) left)

-- a version of the server's, which this answer saved or not
abbrev pub TakesServer : Sets → Progress → Item → Bool → Progress → Type 0
TakesServer sets p i saved q =
    ((number : ℕ) × (local : LocalItem) × (how : Meeting) × HasItem p.rows i.uuid number local × MeetsAs sets local i saved how
    × Meets sets p number local i how q)
    ⊎ (IsFree p.rows i.uuid × MakesRow sets p i i.body q)

-- ---- conflicts

abbrev pub unposted : Columns → Columns
unposted c = record c { posted = None }

-- another account has the uuid of a new item: its row is that of a new one under a fresh uuid, with the same content.
-- A deletion goes; what can't be read stays as it is
abbrev pub Renames : Sets → Progress → ℕ → LocalItem → Option RowBody → Progress → Type 0
Renames sets p number local None q = q ≡ p
Renames sets p number local (Some row.Deleted) q = (change : Change) × Removes change (key.Local number) × (q ≡ changed p change)
Renames sets p number local (Some (row.Sealed strings)) q =
    (OpensNowhere sets local.uuid (sealed_of strings) × (q ≡ p))
    ⊎ ((text : Bytes) × (uuid : Bytes) × (rest : ChaCha) × (again : RowStrings) × (left : ChaCha) × (change : Change)
    × OpensHeld sets local.uuid (sealed_of strings) text × DrawsFresh p.rows p.words uuid rest × Seals rest sets.present uuid text again left
    × PutsColumns change number (new_columns uuid local.kind again) × (q ≡ with_words (changed p change) left))

-- an item that was sent isn't saved
abbrev pub TakesUnsaved : Sets → Progress → ℕ → LocalItem → Conflict → Progress → Type 0
TakesUnsaved sets p number local (conflict.Sync server) q = ⊥
TakesUnsaved sets p number local (conflict.Uuid unsaved) q = Renames sets p number local local.latest q
-- a string wasn't of the account's present set: what was sent is answered, and the draft stays
TakesUnsaved sets p number local (conflict.Content unsaved) q =
    (change : Change) × PutsColumns change number (unposted (columns local)) × (q ≡ changed p change)

abbrev pub TakesOwn : Sets → Progress → Bytes → Conflict → Progress → Type 0
TakesOwn sets p uuid c q =
    ((number : ℕ) × (local : LocalItem) × HasItem p.rows uuid number local × TakesUnsaved sets p number local c q)
    ⊎ (IsFree p.rows uuid × (q ≡ p))

abbrev pub TakesConflict : Sets → Progress → Conflict → Progress → Type 0
TakesConflict sets p (conflict.Sync server) q = TakesServer sets p server false q
TakesConflict sets p (conflict.Uuid unsaved) q = TakesOwn sets p unsaved.uuid (conflict.Uuid unsaved) q
TakesConflict sets p (conflict.Content unsaved) q = TakesOwn sets p unsaved.uuid (conflict.Content unsaved) q

-- ---- all that an answer tells

pub data Told : Type 0 where
  is_saved : Item → Told
  is_conflict : Conflict → Told
  is_retrieved : Item → Told

-- the saved items, then the conflicts, then the retrieved items
abbrev pub told_by : List Item → List Conflict → List Item → List Told
told_by saved conflicts retrieved = map is_saved saved ++ (map is_conflict conflicts ++ map is_retrieved retrieved)

-- one of them is dealt with; a retrieved item that the same answer saves is passed over, since it was retrieved before it was saved
abbrev pub Takes : Sets → List Item → Progress → Told → Progress → Type 0
Takes sets saved p (is_saved i) q = TakesServer sets p i true q
Takes sets saved p (is_conflict c) q = TakesConflict sets p c q
Takes sets saved p (is_retrieved i) q =
    (Contains (uuids saved) i.uuid × (q ≡ p)) ⊎ (¬ (Contains (uuids saved) i.uuid) × TakesServer sets p i false q)

-- in order
abbrev pub TakesAll : Sets → List Item → Progress → List Told → Progress → Type 0
TakesAll sets saved p [] q = q ≡ p
TakesAll sets saved p (t ∷ ts) q = (r : Progress) × Takes sets saved p t r × TakesAll sets saved r ts q

-- ---- what can't be dealt with

-- it is this version of the server's, which the answer saves or not, and which isn't passed over
abbrev pub IsServers : List Item → Told → Item → Bool → Type 0
IsServers saved (is_saved j) i flag = (j ≡ i) × (flag ≡ true)
IsServers saved (is_conflict (conflict.Sync server)) i flag = (server ≡ i) × (flag ≡ false)
IsServers saved (is_conflict (conflict.Uuid unsaved)) i flag = ⊥
IsServers saved (is_conflict (conflict.Content unsaved)) i flag = ⊥
IsServers saved (is_retrieved j) i flag = (j ≡ i) × (flag ≡ false) × ¬ (Contains (uuids saved) i.uuid)

-- a draft forks where it meets the version
abbrev pub Forks : Sets → Progress → Item → Bool → Type 0
Forks sets p i saved = (number : ℕ) × (local : LocalItem) × HasItem p.rows i.uuid number local × MeetsAs sets local i saved meeting.Fork

-- an undeleted version makes a row
abbrev pub IsNewItem : Progress → Item → Type 0
IsNewItem p i = IsFree p.rows i.uuid × (i.body ≢ body.Deleted)

-- the item's draft can be read, and so can go on under another uuid
abbrev pub IsNamedAnew : Sets → Progress → Item → Type 0
IsNamedAnew sets p i = (number : ℕ) × (local : LocalItem) × (strings : RowStrings) × (text : Bytes) × HasItem p.rows i.uuid number local
    × (local.latest ≡ Some (row.Sealed strings)) × OpensHeld sets local.uuid (sealed_of strings) text

-- a new row is due
abbrev pub NeedsNumber : Sets → List Item → Progress → Told → Type 0
NeedsNumber sets saved p t = (i : Item) × (flag : Bool) × IsServers saved t i flag × (Forks sets p i flag ⊎ IsNewItem p i)

-- a fresh uuid is
abbrev pub NeedsUuid : Sets → List Item → Progress → Told → Type 0
NeedsUuid sets saved p t = ((i : Item) × (flag : Bool) × IsServers saved t i flag × Forks sets p i flag)
    ⊎ ((unsaved : Item) × (t ≡ is_conflict (conflict.Uuid unsaved)) × IsNamedAnew sets p unsaved)

-- the local numbers are used up, or else no fresh uuid is drawn
abbrev pub RunsOutAt : Sets → List Item → Progress → Told → ClientError → Type 0
RunsOutAt sets saved p t why =
    (NeedsNumber sets saved p t × (p.next ≡ last_number) × (why ≡ refusal.NumbersUsed p.next))
    ⊎ (NeedsUuid sets saved p t × (NeedsNumber sets saved p t → p.next ≢ last_number)
    × ((drawn : Bytes) × DrawsNoFresh p.rows p.words drawn × (why ≡ refusal.NoFreshUuid drawn)))

-- at the first of all that the answer tells at which it is so
pub record RunsOut (sets : Sets) (saved : List Item) (p : Progress) (told : List Told) (why : ClientError) : Type 0 where
  pub front : List Told
  pub entry : Told
  pub later : List Told
  pub split : told ≡ front ++ entry ∷ later
  pub at : Progress
  pub taken : TakesAll sets saved p front at
  pub stops : RunsOutAt sets saved at entry why

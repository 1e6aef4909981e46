-- What an answer has made of a device's rows so far, as it is kept until it is committed, and why it can't go on.
use Rattle.std.specs.Prelude.{◌≡◌, ◌≢◌, ◌⊎◌, ℕ, Bool, true, false, List, [], ◌∷◌, Option, Some, None}
use Rattle.rand_chacha.specs.ChaCha.{ChaCha}
use Rattle.sn_conflict.specs.Checks.{HasItsStrings}
use Rattle.sn_conflict.specs.declared.meeting.Meeting.{Meeting}
use Rattle.sn_conflict.specs.declared.meeting.Meeting.TheVariants as meeting
use Rattle.sn_rows.specs.Bounds.{HasLength}
use Rattle.sn_rows.specs.Table.{Rows, rows_after}
use Rattle.sn_rows.specs.declared.body.RowBody.{RowBody}
use Rattle.sn_rows.specs.declared.body.RowBody.TheVariants as row
use Rattle.sn_rows.specs.declared.body.RowStrings.{RowStrings}
use Rattle.sn_rows.specs.declared.change.Change.{Change}
use Rattle.sn_rows.specs.declared.device_rows.LocalItem.{LocalItem}
use Rattle.sn_sets.specs.Seals.{Seals}
use Rattle.sn_sets.specs.Sets.{OpensHeld, sealed_of}
use Rattle.sn_sets.specs.declared.sets.Sets.{Sets}
use Rattle.sn_string.specs.declared.params.KeySet.{KeySet}
use Rattle.sn_sync.specs.Fits.{FitsStored}
use Rattle.sn_sync.specs.declared.answer.Conflict.{Conflict}
use Rattle.sn_sync.specs.declared.answer.Conflict.TheVariants as conflict
use Rattle.sn_sync.specs.declared.item.Item.{Item}
use Rattle.sn_device.specs.Draws.{DrawsFresh, DrawsNoFresh}
use Rattle.sn_device.specs.Sending.{PutsColumns}
use Rattle.sn_device.specs.States.{Bytes, text_of_token}
use Rattle.sn_device.specs.Taking.{Forks, IsNewItem, Progress, changed, last_number, made, new_columns, with_words}
use Rattle.sn_device.specs.declared.error.ClientError.{ClientError}
use Rattle.sn_device.specs.declared.error.ClientError.TheVariants as refusal
use Rattle.sn_taking.specs.declared.taken.Effect.{Effect}
use Rattle.sn_taking.specs.declared.taken.Effect.TheVariants as effect
use Rattle.sn_taking.specs.declared.taken.NotTaken.{NotTaken}
use Rattle.sn_taking.specs.declared.taken.NotTaken.TheVariants as stop
use Rattle.sn_taking.specs.declared.taken.Taken.{Taken}

-- ---- so far

-- the rows, the changes and the next local number that these leave, with these words
abbrev pub so_far : Rows → Taken → ChaCha → Progress
so_far rows taken words = record { rows = rows_after rows taken.changes; changes = taken.changes; next = taken.next; words = words }

-- after one effect more, which leaves these words
abbrev pub after : Progress → Effect → ChaCha → Progress
after p effect.Nothing words = with_words p words
after p (effect.Changed change) words = with_words (changed p change) words
after p (effect.Made change) words = with_words (made p change) words
after p (effect.Forked copy change) words = with_words (changed (made p copy) change) words

-- a row of its own has a local number
abbrev pub HasNumber : ℕ → Effect → Type 0
HasNumber next effect.Nothing = Unit {0}
HasNumber next (effect.Changed change) = Unit {0}
HasNumber next (effect.Made change) = next ≢ last_number
HasNumber next (effect.Forked copy change) = next ≢ last_number

-- ---- versions

-- a version of the server's within its bounds, with strings that name its item
pub record IsVersion (i : Item) : Type 0 where
  pub stored : FitsStored i
  pub strings : HasItsStrings i

-- a conflict's version of the server's is so; of what was sent just the uuid counts
abbrev pub HasVersion : Conflict → Type 0
HasVersion (conflict.Sync server) = IsVersion server
HasVersion (conflict.Uuid unsaved) = Unit {0}
HasVersion (conflict.Content unsaved) = Unit {0}

-- the tokens of an answer are within what the device's own row may have
pub record FitsTokens (token : Bytes) (cursor : Option Bytes) : Type 0 where
  pub token_fits : HasLength 0 33554432 token
  pub cursor_fits : HasLength 0 33554432 (text_of_token cursor)

-- one change, if there is one
abbrev pub option_list : Option Change → List Change
option_list None = []
option_list (Some change) = change ∷ []

-- what a row's draft leaves to the row where that takes the version it meets
abbrev pub left_by : LocalItem → Meeting → Option RowBody
left_by local (meeting.Own false) = local.latest
left_by local (meeting.Own true) = None
left_by local meeting.Same = None
left_by local meeting.Take = None
left_by local meeting.GiveWay = None
left_by local meeting.Fork = None

-- ---- what stops

abbrev pub refusal_of : NotTaken → ClientError
refusal_of (stop.NumbersUsed next) = refusal.NumbersUsed next
refusal_of (stop.NoFreshUuid drawn) = refusal.NoFreshUuid drawn
refusal_of stop.Memory = refusal.Memory

-- memory is wanting, or this holds of the refusal
abbrev pub StopsBy : (ClientError → Type 0) → NotTaken → Type 0
StopsBy P why = (why ≡ stop.Memory) ⊎ P (refusal_of why)

-- the local numbers are used up
abbrev pub IsUsedUp : Progress → ClientError → Type 0
IsUsedUp p why = (p.next ≡ last_number) × (why ≡ refusal.NumbersUsed p.next)

-- no fresh uuid is drawn
abbrev pub FindsNoFresh : Progress → ClientError → Type 0
FindsNoFresh p why = (drawn : Bytes) × DrawsNoFresh p.rows p.words drawn × (why ≡ refusal.NoFreshUuid drawn)

-- what stops a draft that goes on as a copy: the local numbers are used up, or else no fresh uuid is drawn
abbrev pub StopsCopy : Progress → ClientError → Type 0
StopsCopy p why = IsUsedUp p why ⊎ ((p.next ≢ last_number) × FindsNoFresh p why)

-- what stops a version of the server's, which the answer saved or not
abbrev pub StopsServer : Sets → Progress → Item → Bool → ClientError → Type 0
StopsServer sets p i saved why = (Forks sets p i saved × StopsCopy p why) ⊎ (IsNewItem p i × IsUsedUp p why)

-- the draft of a row can be read, and so can go on under another uuid
abbrev pub IsReadable : Sets → LocalItem → Type 0
IsReadable sets local = (strings : RowStrings) × (local.latest ≡ Some (row.Sealed strings))
    × ((text : Bytes) × OpensHeld sets local.uuid (sealed_of strings) text)

-- the draft of a row is this content
abbrev pub HasText : Sets → LocalItem → Bytes → Type 0
HasText sets local text = (strings : RowStrings) × (local.latest ≡ Some (row.Sealed strings)) × OpensHeld sets local.uuid (sealed_of strings) text

-- ---- contents under fresh uuids

-- the change puts, under this local number, a new item of a fresh uuid whose draft is this content
pub record PutsAnew (present : KeySet) (rows : Rows) (words : ChaCha) (number : ℕ) (kind text : Bytes) (change : Change) (left : ChaCha) : Type 0 where
  pub uuid : Bytes
  pub rest : ChaCha
  pub fresh : DrawsFresh rows words uuid rest
  pub strings : RowStrings
  pub seals : Seals rest present uuid text strings left
  pub puts : PutsColumns change number (new_columns uuid kind strings)

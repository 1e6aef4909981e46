-- What holds of all devices, by the definitions alone.
use Rattle.std.specs.Prelude.{◌≡◌, ◌⊎◌, ◌↔◌, ◌<◌, ◌≤◌, ℕ, Bool, List, [], ◌∷◌, ◌++◌, Option, Some, None}
use Rattle.std.specs.List.{Contains}
use Rattle.rand_chacha.specs.ChaCha.{ChaCha}
use Rattle.sn_conflict.specs.Checks.{HasItsStrings}
use Rattle.sn_conflict.specs.Meetings.{HasContent}
use Rattle.sn_sync.specs.Versions.{conflict_uuids, item_of, uuids}
use Rattle.sn_notes.specs.Copies.{copy_of}
use Rattle.sn_rekey.specs.Rekeying.{IsRewrapped}
use Rattle.sn_rekey.specs.Rewraps.{Rewraps}
use Rattle.sn_rows.specs.Table.{Rows, no_rows, rows_after}
use Rattle.sn_rows.specs.declared.body.RowBody.{RowBody}
use Rattle.sn_rows.specs.declared.body.RowBody.TheVariants as row
use Rattle.sn_rows.specs.declared.body.RowStrings.{RowStrings}
use Rattle.sn_rows.specs.declared.change.Change.{Change}
use Rattle.sn_rows.specs.declared.device_rows.LocalItem.{LocalItem}
use Rattle.sn_rows.specs.declared.device_rows.OwnerRow.{OwnerRow}
use Rattle.sn_rows.specs.declared.kind.RowKind.{RowKind}
use Rattle.sn_sets.specs.Seals.{Seals}
use Rattle.sn_sets.specs.Sets.{OpensHeld, sealed_of}
use Rattle.sn_sets.specs.declared.sets.Sets.{Sets}
use Rattle.sn_string.specs.declared.params.KeySet.{KeySet}
use Rattle.sn_sync.specs.declared.answer.Answer.{Answer}
use Rattle.sn_sync.specs.declared.answer.Answer.TheVariants as answer
use Rattle.sn_sync.specs.declared.item.Item.{Item}
use Rattle.sn_sync.specs.declared.request.Request.{Request}
use Rattle.sn_device.specs.States.{Bytes, HasItem, HasLocal, HasSets, IsFirstUnsound, IsOwnDraft, IsSound, IsSoundDevice, IsSoundItem, columns}
use Rattle.sn_device.specs.Runs.{Act, Call, Halt, Run, asked, commits, passwd, rows_done, sign_in, sync}
use Rattle.sn_device.specs.Steps.{Step, What, adopts, applies, asks, begins, deletes, edits, forgets, posts, puts, renews, start}
use Rattle.sn_device.specs.Taking.{IsServers, Progress, Takes, TakesAll, Told, is_conflict, is_retrieved, is_saved, told_by}

-- no kind is told just of sound rows
abbrev pub TellsSoundness : Type 0
TellsSoundness = (rows : Rows) (found : Option RowKind) → IsFirstUnsound rows found → (found ≡ None) ↔ IsSound rows

-- a fresh device is sound
abbrev pub FreshIsSound : Type 0
FreshIsSound = IsSoundDevice no_rows

-- ---- drafts

-- the item of this uuid stands under its local number with this draft
pub record HasDraft (rows : Rows) (uuid : Bytes) (number : ℕ) (latest : RowBody) : Type 0 where
  pub local : LocalItem
  pub stands : HasItem rows uuid number local
  pub drafted : local.latest ≡ Some latest

-- an answer to a sync tells of the item
abbrev pub TellsOf : Answer → Bytes → Type 0
TellsOf (answer.Sync conflicts cursor retrieved saved token) uuid =
    Contains (uuids saved) uuid ⊎ (Contains (conflict_uuids conflicts) uuid ⊎ Contains (uuids retrieved) uuid)
TellsOf (answer.Account token identifier account) uuid = ⊥
TellsOf (answer.Params params) uuid = ⊥
TellsOf (answer.Refused status tag more) uuid = ⊥

-- what is done is of the item; an adoption is of every one
abbrev pub IsOfItem : What → Bytes → Type 0
IsOfItem (edits of text) uuid = of ≡ uuid
IsOfItem (deletes of) uuid = of ≡ uuid
IsOfItem (applies request given) uuid = TellsOf given uuid
IsOfItem (begins set account token) uuid = ⊥
IsOfItem (renews token) uuid = ⊥
IsOfItem (puts of kind text) uuid = ⊥
IsOfItem (posts numbers) uuid = ⊥
IsOfItem (asks set) uuid = ⊥
IsOfItem (adopts set token) uuid = Unit {0}
IsOfItem forgets uuid = ⊥

-- a draft stays as it is but for the user's own call of its item, for an answer that tells of it, whatever server gave that, and for the adoption of a set
abbrev pub DraftStays : Type 0
DraftStays = (rows : Rows) (words left : ChaCha) (what : What) (changes : List Change) (uuid : Bytes) (number : ℕ) (latest : RowBody)
    → IsSound rows → Step rows words what changes left → ¬ (IsOfItem what uuid)
    → HasDraft rows uuid number latest → HasDraft (rows_after rows changes) uuid number latest

-- a version is sealed again under the set, with the same content, where it opens under a set that is held; any other stays as it is
pub record IsAdoptedAs (sets : Sets) (set : KeySet) (uuid : Bytes) (before after : RowBody) : Type 0 where
  pub words : ChaCha
  pub left : ChaCha
  pub rewrapped : IsRewrapped sets set words uuid before after left

-- at the adoption of a set a draft stays in its row, with its content
abbrev pub DraftAdopted : Type 0
DraftAdopted = (rows : Rows) (words left : ChaCha) (set : KeySet) (token : Bytes) (changes : List Change) (owner : OwnerRow) (sets : Sets) (uuid : Bytes)
    (number : ℕ) (latest : RowBody)
    → HasSets rows owner sets → Step rows words (adopts set token) changes left → HasDraft rows uuid number latest
    → (again : RowBody) × HasDraft (rows_after rows changes) uuid number again × IsAdoptedAs sets set uuid latest again

-- ---- one version of an answer, and a draft

-- the draft's content, or the copy of it for this uuid, is the draft of an item, sealed for that under the present set
pub record GoesOn (sets : Sets) (rows : Rows) (uuid : Bytes) (latest : RowBody) : Type 0 where
  pub strings : RowStrings
  pub was : latest ≡ row.Sealed strings
  pub text : Bytes
  pub opened : OpensHeld sets uuid (sealed_of strings) text
  pub number : ℕ
  pub local : LocalItem
  pub stands : HasLocal rows number local
  pub again : RowStrings
  pub drafted : local.latest ≡ Some (row.Sealed again)
  pub content : Bytes
  pub content_is : (content ≡ text) ⊎ (content ≡ copy_of text uuid)
  pub before : ChaCha
  pub left : ChaCha
  pub seals : Seals before sets.present local.uuid content again left

-- the version has the draft's content
pub record HasDraftsContent (sets : Sets) (saved : List Item) (t : Told) (local : LocalItem) (latest : RowBody) : Type 0 where
  pub item : Item
  pub flag : Bool
  pub is : IsServers saved t item flag
  pub same : HasContent sets local latest item

-- the draft of a row, among what the versions before have left
pub record IsDraftOf (p : Progress) (number : ℕ) (local : LocalItem) (latest : RowBody) : Type 0 where
  pub there : HasLocal p.rows number local
  pub drafted : local.latest ≡ Some latest
  pub below : number < p.next
  pub deleted : local.posted ≡ Some row.Deleted → latest ≡ row.Deleted

-- how it may end in its row: the server's version has its content, or it is a deletion, or it goes on elsewhere
abbrev pub MayEnd : Sets → List Item → Told → LocalItem → RowBody → Progress → Type 0
MayEnd sets saved t local latest q = HasDraftsContent sets saved t local latest ⊎ ((latest ≡ row.Deleted) ⊎ GoesOn sets q.rows local.uuid latest)

-- whatever a server answers, no draft is lost but a deletion
abbrev pub DraftKept : Type 0
DraftKept = (sets : Sets) (saved : List Item) (p q : Progress) (t : Told) (number : ℕ) (local : LocalItem) (latest : RowBody)
    → IsDraftOf p number local latest → Takes sets saved p t q
    → HasDraft q.rows local.uuid number latest ⊎ MayEnd sets saved t local latest q

-- ---- one version of an answer, and all items

-- the items of a device whose next local number is this: numbered below it, of uuids that differ, sound, and with drafts that open
pub record AreWell (present : KeySet) (next : ℕ) (rows : Rows) : Type 0 where
  pub numbered : (number : ℕ) (local : LocalItem) → HasLocal rows number local → number < next
  pub apart : (number other : ℕ) (local twin : LocalItem) → HasLocal rows number local → HasLocal rows other twin → local.uuid ≡ twin.uuid → number ≡ other
  pub items : (number : ℕ) (local : LocalItem) → HasLocal rows number local → IsSoundItem (columns local)
  pub drafts : (number : ℕ) (local : LocalItem) → HasLocal rows number local → IsOwnDraft present (columns local)

-- the strings of a version that a row may take have been checked
abbrev pub IsChecked : Told → Type 0
IsChecked (is_saved i) = HasItsStrings i
IsChecked (is_conflict k) = HasItsStrings (item_of k)
IsChecked (is_retrieved i) = HasItsStrings i

-- each version leaves the items so, whatever server gave it
abbrev pub StayWell : Type 0
StayWell = (sets : Sets) (saved : List Item) (p q : Progress) (t : Told) → IsChecked t → AreWell sets.present p.next p.rows → Takes sets saved p t q
    → AreWell sets.present q.next q.rows

-- ---- runs

-- each commit is a step on the rows that the acts before it have left
abbrev pub AreSteps : Rows → List Act → Type 0
AreSteps rows [] = Unit {0}
AreSteps rows (commits what changes ∷ acts) =
    (words : ChaCha) × (left : ChaCha) × Step rows words what changes left × AreSteps (rows_after rows changes) acts
AreSteps rows (asked r reply ∷ acts) = AreSteps rows acts

-- so are those of each run
abbrev pub RunsBySteps : Type 0
RunsBySteps = (least : ℕ) (call : Call) (rows : Rows) (words : ChaCha) (acts : List Act) (halt : Halt)
    → Run least call rows words acts halt → AreSteps rows acts

-- ---- steps, and all items

-- the items of a device whose next local number is this, whatever their drafts are: numbered below it, of uuids that differ, and sound
pub record AreStanding (next : ℕ) (rows : Rows) : Type 0 where
  pub numbered : (number : ℕ) (local : LocalItem) → HasLocal rows number local → number < next
  pub apart : (number other : ℕ) (local twin : LocalItem) → HasLocal rows number local → HasLocal rows other twin → local.uuid ≡ twin.uuid → number ≡ other
  pub items : (number : ℕ) (local : LocalItem) → HasLocal rows number local → IsSoundItem (columns local)

-- each version of an answer leaves the items so, whatever server gave it
abbrev pub StayStanding : Type 0
StayStanding = (sets : Sets) (saved : List Item) (p q : Progress) (t : Told) → IsChecked t → AreStanding p.next p.rows → Takes sets saved p t q
    → AreStanding q.next q.rows

-- each commit leaves sound rows sound
abbrev pub StepsStaySound : Type 0
StepsStaySound = (rows : Rows) (words left : ChaCha) (what : What) (changes : List Change)
    → IsSound rows → Step rows words what changes left → IsSound (rows_after rows changes)

-- and drafts that open under the present set open, with a deletion that was sent still the draft
abbrev pub StepsStaySoundDevice : Type 0
StepsStaySoundDevice = (rows : Rows) (words left : ChaCha) (what : What) (changes : List Change)
    → IsSoundDevice rows → Step rows words what changes left → IsSoundDevice (rows_after rows changes)

-- ---- a whole answer, and a draft

-- a content, copied for each of these uuids in order
abbrev pub copied : Bytes → List Bytes → Bytes
copied text [] = text
copied text (uuid ∷ later) = copied (copy_of text uuid) later

-- the draft is still that of its item in its row
pub record IsStillOf (number : ℕ) (was : LocalItem) (latest : RowBody) (at : ℕ) (local : LocalItem) (again : RowBody) : Type 0 where
  pub number_is : at ≡ number
  pub uuid_is : local.uuid ≡ was.uuid
  pub kind_is : local.kind ≡ was.kind
  pub draft_is : again ≡ latest

-- it goes on as that of another item of its type, in its own row or in one that is new where this was the next local number: its content, or a copy
-- of it, or of that copy and so on, is sealed for the item under the present set
pub record GoesOnAs (sets : Sets) (next number : ℕ) (was : LocalItem) (latest : RowBody) (at : ℕ) (local : LocalItem) (again : RowBody) : Type 0 where
  pub place : (at ≡ number) ⊎ (next ≤ at)
  pub kind_is : local.kind ≡ was.kind
  pub strings : RowStrings
  pub was_sealed : latest ≡ row.Sealed strings
  pub text : Bytes
  pub opened : OpensHeld sets was.uuid (sealed_of strings) text
  pub copies : List Bytes
  pub anew : RowStrings
  pub is_sealed : again ≡ row.Sealed anew
  pub before : ChaCha
  pub left : ChaCha
  pub seals : Seals before sets.present local.uuid (copied text copies) anew left

-- a draft of these rows carries it on so
pub record IsCarried (sets : Sets) (next number : ℕ) (was : LocalItem) (latest : RowBody) (rows : Rows) : Type 0 where
  pub at : ℕ
  pub local : LocalItem
  pub stands : HasLocal rows at local
  pub again : RowBody
  pub drafted : local.latest ≡ Some again
  pub carries : IsStillOf number was latest at local again ⊎ GoesOnAs sets next number was latest at local again

-- this is one of all that an answer tells, and what is left when it is met: a version of the server's, saved or not, which isn't passed over
pub record MeetsVersion (sets : Sets) (saved : List Item) (p : Progress) (told : List Told) (item : Item) (flag : Bool) (met : Rows) : Type 0 where
  pub front : List Told
  pub entry : Told
  pub later : List Told
  pub split : told ≡ front ++ entry ∷ later
  pub at : Progress
  pub taken : TakesAll sets saved p front at
  pub rows_are : met ≡ at.rows
  pub is : IsServers saved entry item flag

abbrev pub MeetsOf : Sets → Rows → OwnerRow → ChaCha → Answer → Item → Bool → Rows → Type 0
MeetsOf sets rows owner words (answer.Sync conflicts cursor retrieved saved token) item flag met =
    MeetsVersion sets saved (start rows owner words) (told_by saved conflicts retrieved) item flag met
MeetsOf sets rows owner words (answer.Account token identifier account) item flag met = ⊥
MeetsOf sets rows owner words (answer.Params params) item flag met = ⊥
MeetsOf sets rows owner words (answer.Refused status tag more) item flag met = ⊥

-- a version of an answer has the content of the draft, or of that which carries it on when it is met
pub record IsAnswered (sets : Sets) (rows : Rows) (owner : OwnerRow) (words : ChaCha) (number : ℕ) (was : LocalItem) (latest : RowBody) (given : Answer)
    : Type 0 where
  pub met : Rows
  pub carried : IsCarried sets owner.next number was latest met
  pub item : Item
  pub flag : Bool
  pub meets : MeetsOf sets rows owner words given item flag met
  pub named : item.uuid ≡ carried.local.uuid
  pub same : HasContent sets carried.local carried.again item

-- whatever a server answers, no draft but a deletion is lost: it is carried on in the rows after the commit, or the server has its content
abbrev pub DraftKeptByAnswer : Type 0
DraftKeptByAnswer = (rows : Rows) (words left : ChaCha) (r : Request) (given : Answer) (changes : List Change) (owner : OwnerRow) (sets : Sets)
    (number : ℕ) (local : LocalItem) (latest : RowBody)
    → IsSoundDevice rows → HasSets rows owner sets → Step rows words (applies r given) changes left
    → HasLocal rows number local → local.latest ≡ Some latest
    → IsCarried sets owner.next number local latest (rows_after rows changes)
    ⊎ ((latest ≡ row.Deleted) ⊎ IsAnswered sets rows owner words number local latest given)

-- ---- whole calls

-- whichever first acts of a call are done, they leave sound rows sound
abbrev pub RunsStaySound : Type 0
RunsStaySound = (least : ℕ) (call : Call) (rows : Rows) (words : ChaCha) (acts : List Act) (halt : Halt) (front later : List Act)
    → Run least call rows words acts halt → acts ≡ front ++ later → IsSound rows → IsSound (rows_done rows front)

-- and a device sound
abbrev pub RunsStaySoundDevice : Type 0
RunsStaySoundDevice = (least : ℕ) (call : Call) (rows : Rows) (words : ChaCha) (acts : List Act) (halt : Halt) (front later : List Act)
    → Run least call rows words acts halt → acts ≡ front ++ later → IsSoundDevice rows → IsSoundDevice (rows_done rows front)

-- the strings are this content of the item under the set: the device sealed them so, or sealed them again from another set
abbrev pub IsSealedUnder : KeySet → Bytes → Bytes → RowStrings → Type 0
IsSealedUnder set uuid content strings = ((before : ChaCha) × (left : ChaCha) × Seals before set uuid content strings left)
    ⊎ ((before : ChaCha) × (left : ChaCha) × (other : KeySet) × (given : RowStrings)
    × Rewraps before uuid content other set (sealed_of given) (sealed_of strings) left)

-- the draft is that of its item in its row still, with the same content, sealed again under this set
pub record IsSealedAgain (sets : Sets) (present : KeySet) (number : ℕ) (was : LocalItem) (latest : RowBody) (at : ℕ) (local : LocalItem) (again : RowBody)
    : Type 0 where
  pub number_is : at ≡ number
  pub uuid_is : local.uuid ≡ was.uuid
  pub kind_is : local.kind ≡ was.kind
  pub strings : RowStrings
  pub was_sealed : latest ≡ row.Sealed strings
  pub text : Bytes
  pub opened : OpensHeld sets was.uuid (sealed_of strings) text
  pub anew : RowStrings
  pub is_sealed : again ≡ row.Sealed anew
  pub under : IsSealedUnder present local.uuid text anew

-- it goes on as that of another item of its type, in its own row or in one that is new where this was the next local number: its content, or a copy
-- of it, or of that copy and so on, is sealed for the item under this set
pub record GoesOnUnder (sets : Sets) (present : KeySet) (next number : ℕ) (was : LocalItem) (latest : RowBody) (at : ℕ) (local : LocalItem)
    (again : RowBody) : Type 0 where
  pub place : (at ≡ number) ⊎ (next ≤ at)
  pub kind_is : local.kind ≡ was.kind
  pub strings : RowStrings
  pub was_sealed : latest ≡ row.Sealed strings
  pub text : Bytes
  pub opened : OpensHeld sets was.uuid (sealed_of strings) text
  pub copies : List Bytes
  pub anew : RowStrings
  pub is_sealed : again ≡ row.Sealed anew
  pub under : IsSealedUnder present local.uuid (copied text copies) anew

-- a draft of these rows carries it on so
pub record IsCarriedUnder (sets : Sets) (present : KeySet) (next number : ℕ) (was : LocalItem) (latest : RowBody) (rows : Rows) : Type 0 where
  pub at : ℕ
  pub local : LocalItem
  pub stands : HasLocal rows at local
  pub again : RowBody
  pub drafted : local.latest ≡ Some again
  pub carries : IsStillOf number was latest at local again
      ⊎ (IsSealedAgain sets present number was latest at local again ⊎ GoesOnUnder sets present next number was latest at local again)

-- under the present set that the rows have
pub record IsCarriedIn (sets : Sets) (next number : ℕ) (was : LocalItem) (latest : RowBody) (rows : Rows) : Type 0 where
  pub holder : OwnerRow
  pub held : Sets
  pub holds : HasSets rows holder held
  pub carried : IsCarriedUnder sets held.present next number was latest rows

-- in one of these acts a version of an answer has the content of the draft, or of that which carries it on when it is met
pub record IsAnsweredIn (sets : Sets) (rows : Rows) (next number : ℕ) (was : LocalItem) (latest : RowBody) (acts : List Act) : Type 0 where
  pub before : List Act
  pub request : Request
  pub given : Answer
  pub changes : List Change
  pub later : List Act
  pub split : acts ≡ before ++ commits (applies request given) changes ∷ later
  pub words : ChaCha
  pub owner : OwnerRow
  pub held : Sets
  pub holds : HasSets (rows_done rows before) owner held
  pub met : Rows
  pub carried : IsCarriedUnder sets held.present next number was latest met
  pub item : Item
  pub flag : Bool
  pub meets : MeetsOf held (rows_done rows before) owner words given item flag met
  pub named : item.uuid ≡ carried.local.uuid
  pub same : HasContent held carried.local carried.again item

-- what becomes of a draft in these acts: it is carried on in the rows that they leave, or it is a deletion, or the server has its content
abbrev pub IsKeptOver : Sets → Rows → ℕ → ℕ → LocalItem → RowBody → List Act → Type 0
IsKeptOver sets rows next number was latest acts = IsCarriedIn sets next number was latest (rows_done rows acts)
    ⊎ ((latest ≡ row.Deleted) ⊎ IsAnsweredIn sets rows next number was latest acts)

-- whatever a server answers, no draft but a deletion is lost in a sync, whether it settles a change of password first or not: so after whichever first acts
-- of it are done
abbrev pub DraftKeptBySync : Type 0
DraftKeptBySync = (least : ℕ) (rows : Rows) (words : ChaCha) (acts : List Act) (halt : Halt) (front later : List Act) (owner : OwnerRow) (sets : Sets)
    (number : ℕ) (local : LocalItem) (latest : RowBody)
    → Run least sync rows words acts halt → acts ≡ front ++ later → IsSoundDevice rows → HasSets rows owner sets
    → HasLocal rows number local → local.latest ≡ Some latest
    → IsKeptOver sets rows owner.next number local latest front

-- nor is any in a change of password
abbrev pub DraftKeptByPasswd : Type 0
DraftKeptByPasswd = (least : ℕ) (password : Bytes) (cost : ℕ) (rows : Rows) (words : ChaCha) (acts : List Act) (halt : Halt) (front later : List Act)
    (owner : OwnerRow) (sets : Sets) (number : ℕ) (local : LocalItem) (latest : RowBody)
    → Run least (passwd password cost) rows words acts halt → acts ≡ front ++ later → IsSoundDevice rows → HasSets rows owner sets
    → HasLocal rows number local → local.latest ≡ Some latest
    → IsKeptOver sets rows owner.next number local latest front

-- nor in a sign-in, which may adopt a set
abbrev pub DraftKeptBySignIn : Type 0
DraftKeptBySignIn = (least : ℕ) (identifier password : Bytes) (rows : Rows) (words : ChaCha) (acts : List Act) (halt : Halt) (front later : List Act)
    (owner : OwnerRow) (sets : Sets) (number : ℕ) (local : LocalItem) (latest : RowBody)
    → Run least (sign_in identifier password) rows words acts halt → acts ≡ front ++ later → IsSoundDevice rows → HasSets rows owner sets
    → HasLocal rows number local → local.latest ≡ Some latest
    → IsKeptOver sets rows owner.next number local latest front

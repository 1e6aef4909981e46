-- What an answer to a sync must be, whatever server gave it, before anything of it is applied.
use Rattle.std.specs.Prelude.{◌≡◌, ◌≢◌, ◌⊎◌, ℕ, ◌<◌, ◌≤◌, List, [], length, Option, None, ⊤}
use Rattle.std.specs.List.{Contains}
use Rattle.sn_conflict.specs.Lists.{AllRight, IsFirstWrong}
use Rattle.sn_conflict.specs.declared.error.CheckError.{CheckError}
use Rattle.sn_conflict.specs.declared.error.CheckError.TheVariants as wrong
use Rattle.sn_items.specs.Opens.{NamesItem}
use Rattle.sn_string.specs.Grammar.{Reading}
use Rattle.sn_sync.specs.Members.{Bytes}
use Rattle.sn_sync.specs.Versions.{IsShort, NamesStamp, conflict_uuids, item_of, uuids}
use Rattle.sn_sync.specs.declared.answer.Conflict.{Conflict}
use Rattle.sn_sync.specs.declared.answer.Conflict.TheVariants as conflict
use Rattle.sn_sync.specs.declared.item.Body.{Body}
use Rattle.sn_sync.specs.declared.item.Body.TheVariants as body
use Rattle.sn_sync.specs.declared.item.Item.{Item}

-- ---- strings

-- a 003 string of the item, within what a string may have; whether it opens is no check
abbrev pub IsStringOf : Bytes → Bytes → Type 0
IsStringOf uuid text = IsShort text × ((reading : Reading) × NamesItem text reading uuid)

-- the strings of an undeleted item are; a deleted one has none
abbrev pub AreStringsOf : Bytes → Body → Type 0
AreStringsOf uuid body.Deleted = Unit {0}
AreStringsOf uuid (body.Strings content enc) = IsStringOf uuid content × IsStringOf uuid enc

abbrev pub HasItsStrings : Item → Type 0
HasItsStrings i = AreStringsOf i.uuid i.body

-- ---- what was sent

-- the item is the sent one's uuid, and so one that may be named
abbrev pub IsOf : Item → Item → Type 0
IsOf i sent = sent.uuid ≡ i.uuid

-- a sent item without a version that it replaces
abbrev pub IsNew : Item → Type 0
IsNew sent = (stamp : ℕ) → ¬ (NamesStamp sent stamp)

-- a version that takes a sent one's place: its strings or its deletion, at a stamp not below that of the version that it replaces
pub record Saves (sent i : Item) : Type 0 where
  pub is_of : IsOf i sent
  pub body : i.body ≡ sent.body
  pub stamp : ℕ
  pub stamped : NamesStamp i stamp
  pub later : (base : ℕ) → NamesStamp sent base → base ≤ stamp

abbrev pub SavesOne : List Item → Item → Type 0
SavesOne sent i = (posted : Item) × Contains sent posted × Saves posted i

-- another account's uuid is one that was sent for a new item alone
abbrev pub MayConflict : Conflict → Item → Type 0
MayConflict (conflict.Sync server) sent = ⊤
MayConflict (conflict.Uuid unsaved) sent = IsNew sent
MayConflict (conflict.Content unsaved) sent = ⊤

-- a conflict of a sent item
pub record IsConflictOf (sent : Item) (c : Conflict) : Type 0 where
  pub is_of : IsOf (item_of c) sent
  pub may : MayConflict c sent

abbrev pub HasConflictOf : List Item → Conflict → Type 0
HasConflictOf sent c = (posted : Item) × Contains sent posted × IsConflictOf posted c

-- ---- the four checks

-- a saved item: named first here, and a version of what was sent
pub record IsSaved (sent before : List Item) (i : Item) : Type 0 where
  pub first : ¬ (Contains (uuids before) i.uuid)
  pub saves : SavesOne sent i
  pub strings : HasItsStrings i

-- a conflict of what was sent, named first here: neither saved nor in a conflict before
pub record IsConflict (sent saved : List Item) (before : List Conflict) (c : Conflict) : Type 0 where
  pub unsaved : ¬ (Contains (uuids saved) (item_of c).uuid)
  pub first : ¬ (Contains (conflict_uuids before) (item_of c).uuid)
  pub sent_one : HasConflictOf sent c
  pub strings : HasItsStrings (item_of c)

-- what an answer may retrieve
abbrev pub most_retrieved : ℕ
most_retrieved = 150

-- a stamp above those of all these
abbrev pub AreBelow : List Item → ℕ → Type 0
AreBelow before stamp = (j : Item) (other : ℕ) → Contains before j → NamesStamp j other → other < stamp

pub record IsAbove (before : List Item) (i : Item) : Type 0 where
  pub stamp : ℕ
  pub stamped : NamesStamp i stamp
  pub above : AreBelow before stamp

-- a retrieved item: one of the first so many, their stamps rising
pub record IsRetrieved (before : List Item) (i : Item) : Type 0 where
  pub room : length before < most_retrieved
  pub rises : IsAbove before i
  pub strings : HasItsStrings i

-- something is left only behind a page that isn't empty
abbrev pub MayGoOn : Option Bytes → List Item → Type 0
MayGoOn cursor retrieved = (cursor ≡ None) ⊎ (retrieved ≢ [])

-- ---- the order of checks

pub record SavedRight (sent saved : List Item) : Type 0 where
  pub saved_are : AllRight (IsSaved sent) saved

pub record ConflictsRight (sent saved : List Item) (conflicts : List Conflict) : Type 0 where
  pub saved_are : AllRight (IsSaved sent) saved
  pub conflicts_are : AllRight (IsConflict sent saved) conflicts

pub record RetrievedRight (sent saved : List Item) (conflicts : List Conflict) (retrieved : List Item) : Type 0 where
  pub named : ConflictsRight sent saved conflicts
  pub retrieved_are : AllRight IsRetrieved retrieved

-- the answer to what was sent may be applied
pub record Passes (sent saved : List Item) (conflicts : List Conflict) (retrieved : List Item) (cursor : Option Bytes) : Type 0 where
  pub lists : RetrievedRight sent saved conflicts retrieved
  pub goes_on : MayGoOn cursor retrieved

-- want of memory, or a place of this kind, of which that holds
abbrev pub IsAt : (ℕ → CheckError) → (ℕ → Type 0) → CheckError → Type 0
IsAt at P e = (e ≡ wrong.Memory) ⊎ ((n : ℕ) × (e ≡ at n) × P n)

-- it fails first here: each check before passed, of the lists before and of the items before in its list; want of memory alone is free
abbrev pub FailsAt : List Item → List Item → List Conflict → List Item → Option Bytes → CheckError → Type 0
FailsAt sent saved conflicts retrieved cursor (wrong.Saved n) = IsFirstWrong (IsSaved sent) saved n
FailsAt sent saved conflicts retrieved cursor (wrong.Conflict n) =
    SavedRight sent saved × IsFirstWrong (IsConflict sent saved) conflicts n
FailsAt sent saved conflicts retrieved cursor (wrong.Retrieved n) =
    ConflictsRight sent saved conflicts × IsFirstWrong IsRetrieved retrieved n
FailsAt sent saved conflicts retrieved cursor wrong.Cursor =
    RetrievedRight sent saved conflicts retrieved × ¬ (MayGoOn cursor retrieved)
FailsAt sent saved conflicts retrieved cursor wrong.Memory = ⊤

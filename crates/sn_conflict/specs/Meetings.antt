-- What becomes of a device's row where it meets the server's version of its item.
use Rattle.std.specs.Prelude.{◌≡◌, ◌⊎◌, ℕ, ◌≤◌, Bool, true, false, Some, None}
use Rattle.sn_conflict.specs.declared.meeting.Meeting.{Meeting}
use Rattle.sn_conflict.specs.declared.meeting.Meeting.TheVariants as meeting
use Rattle.sn_items.specs.declared.sealed.Sealed.{Sealed}
use Rattle.sn_rows.specs.declared.body.RowBody.{RowBody}
use Rattle.sn_rows.specs.declared.body.RowBody.TheVariants as row
use Rattle.sn_rows.specs.declared.body.RowStrings.{RowStrings}
use Rattle.sn_rows.specs.declared.device_rows.LocalItem.{LocalItem}
use Rattle.sn_sets.specs.Sets.{OpensHeld, OpensNowhere, sealed_of}
use Rattle.sn_sets.specs.declared.sets.Sets.{Sets}
use Rattle.sn_sync.specs.Members.{Bytes}
use Rattle.sn_sync.specs.Versions.{NamesStamp}
use Rattle.sn_sync.specs.declared.item.Body.{Body}
use Rattle.sn_sync.specs.declared.item.Body.TheVariants as body
use Rattle.sn_sync.specs.declared.item.Item.{Item}

-- ---- one content

-- both open to one text under the sets that are held
abbrev pub OpenAlike : Sets → Bytes → Sealed → Bytes → Sealed → Type 0
OpenAlike sets uuid sealed other_uuid other = (text : Bytes) × OpensHeld sets uuid sealed text × OpensHeld sets other_uuid other text

-- equal strings, or strings that open to one text
abbrev pub SameStrings : Sets → Bytes → Sealed → Bytes → Sealed → Type 0
SameStrings sets uuid sealed other_uuid other = (sealed ≡ other) ⊎ OpenAlike sets uuid sealed other_uuid other

-- a body of the row has the content of the server's version: both are deleted, or they are of one type and have the same content
abbrev pub HasContentOf : Sets → LocalItem → RowBody → Item → Body → Type 0
HasContentOf sets local row.Deleted i body.Deleted = Unit {0}
HasContentOf sets local row.Deleted i (body.Strings content enc) = ⊥
HasContentOf sets local (row.Sealed strings) i body.Deleted = ⊥
HasContentOf sets local (row.Sealed strings) i (body.Strings content enc) =
    (local.kind ≡ i.kind) × SameStrings sets local.uuid (sealed_of strings) i.uuid (record { content = content; enc = enc })

abbrev pub HasContent : Sets → LocalItem → RowBody → Item → Type 0
HasContent sets local version i = HasContentOf sets local version i i.body

-- ---- the cases in their order, each with none before it

-- nothing new: not saved by this answer, and its stamp isn't above that of the version which the row stands on
pub record IsKnown (local : LocalItem) (i : Item) (saved : Bool) : Type 0 where
  pub retrieved : saved ≡ false
  pub base : ℕ
  pub stands_on : local.base ≡ Some base
  pub stamp : ℕ
  pub stamped : NamesStamp i stamp
  pub old : stamp ≤ base

-- something new for a row without a draft
pub record MeetsClean (local : LocalItem) (i : Item) (saved : Bool) : Type 0 where
  pub news : ¬ (IsKnown local i saved)
  pub clean : local.latest ≡ None

-- for a draft
pub record MeetsDraft (local : LocalItem) (i : Item) (saved : Bool) (latest : RowBody) : Type 0 where
  pub news : ¬ (IsKnown local i saved)
  pub drafted : local.latest ≡ Some latest

-- that has its content
pub record MeetsOwn (sets : Sets) (local : LocalItem) (i : Item) (saved : Bool) : Type 0 where
  pub latest : RowBody
  pub meets : MeetsDraft local i saved latest
  pub same : HasContent sets local latest i

-- what was sent of the row has the content of the server's version
abbrev pub PostedHasContent : Sets → LocalItem → Item → Type 0
PostedHasContent sets local i = (posted : RowBody) × (local.posted ≡ Some posted) × HasContent sets local posted i

-- that has another, and what was sent of it has its content
pub record MeetsPosted (sets : Sets) (local : LocalItem) (i : Item) (saved : Bool) : Type 0 where
  pub latest : RowBody
  pub meets : MeetsDraft local i saved latest
  pub differs : ¬ (HasContent sets local latest i)
  pub same : PostedHasContent sets local i

-- that has another, as has what was sent of it
pub record MeetsOther (sets : Sets) (local : LocalItem) (i : Item) (saved : Bool) (latest : RowBody) : Type 0 where
  pub meets : MeetsDraft local i saved latest
  pub differs : ¬ (HasContent sets local latest i)
  pub differed : ¬ (PostedHasContent sets local i)

-- and is a deletion
abbrev pub MeetsDeletion : Sets → LocalItem → Item → Bool → Type 0
MeetsDeletion sets local i saved = MeetsOther sets local i saved row.Deleted

-- or can't be read, and is left as it is
pub record MeetsClosed (sets : Sets) (local : LocalItem) (i : Item) (saved : Bool) : Type 0 where
  pub strings : RowStrings
  pub other : MeetsOther sets local i saved (row.Sealed strings)
  pub closed : OpensNowhere sets local.uuid (sealed_of strings)

-- or is a text, which is to be kept beside the server's
pub record MeetsText (sets : Sets) (local : LocalItem) (i : Item) (saved : Bool) : Type 0 where
  pub strings : RowStrings
  pub other : MeetsOther sets local i saved (row.Sealed strings)
  pub text : Bytes
  pub opens : OpensHeld sets local.uuid (sealed_of strings) text

-- the case of a row, a server's version, and whether the answer saved it
abbrev pub MeetsAs : Sets → LocalItem → Item → Bool → Meeting → Type 0
MeetsAs sets local i saved meeting.Same = IsKnown local i saved ⊎ MeetsClosed sets local i saved
MeetsAs sets local i saved meeting.Take = MeetsClean local i saved
MeetsAs sets local i saved (meeting.Own true) = MeetsOwn sets local i saved
MeetsAs sets local i saved (meeting.Own false) = MeetsPosted sets local i saved
MeetsAs sets local i saved meeting.GiveWay = MeetsDeletion sets local i saved
MeetsAs sets local i saved meeting.Fork = MeetsText sets local i saved

-- What versions in messages have: their strings, the stamp that each names, and the uuids of lists of them.
use Rattle.std.specs.Prelude.{◌≡◌, ℕ, ◌≤◌, List, [], ◌∷◌, length, map, Some, All}
use Rattle.std.specs.List.{Contains}
use Rattle.sn_string.specs.Bounds.{most_string}
use Rattle.sn_sync.specs.Members.{Bytes}
use Rattle.sn_sync.specs.Stamps.{IsStampText}
use Rattle.sn_sync.specs.declared.answer.Conflict.{Conflict}
use Rattle.sn_sync.specs.declared.answer.Conflict.TheVariants as conflict
use Rattle.sn_sync.specs.declared.item.Body.{Body}
use Rattle.sn_sync.specs.declared.item.Body.TheVariants as body
use Rattle.sn_sync.specs.declared.item.Item.{Item}

-- the strings of a body, the content before the item key
abbrev pub strings_in : Body → List Bytes
strings_in body.Deleted = []
strings_in (body.Strings content enc) = content ∷ enc ∷ []

abbrev pub IsShort : Bytes → Type 0
IsShort string = length string ≤ most_string

abbrev pub AreShort : List Bytes → Type 0
AreShort strings = All IsShort strings

-- the item names the version of this stamp: as its own where it is stored, as the one that it replaces where it is sent
abbrev pub NamesStamp : Item → ℕ → Type 0
NamesStamp i stamp = (text : Bytes) × IsStampText text stamp × (i.updated_at ≡ Some text)

abbrev pub uuids : List Item → List Bytes
uuids items = map (λ i. i.uuid) items

abbrev pub item_of : Conflict → Item
item_of (conflict.Sync server) = server
item_of (conflict.Uuid unsaved) = unsaved
item_of (conflict.Content unsaved) = unsaved

abbrev pub conflict_uuids : List Conflict → List Bytes
conflict_uuids conflicts = map (λ c. (item_of c).uuid) conflicts

-- none stands twice
abbrev pub AreApart : List Bytes → Type 0
AreApart [] = Unit {0}
AreApart (u ∷ us) = ¬ (Contains us u) × AreApart us

-- What holds of all rows and sets.
use Rattle.std.specs.Prelude.{◌≡◌, Bool, Option, Some}
use Rattle.rand_chacha.specs.ChaCha.{ChaCha}
use Rattle.sn_items.specs.Items.{OpensItem}
use Rattle.sn_items.specs.declared.sealed.Sealed.{Sealed}
use Rattle.sn_rekey.specs.Rekeying.{HasNoneOpen, HasOpen, IsRewrapped, Rekeys, RewrapsPlace}
use Rattle.sn_rekey.specs.Rewraps.{Bytes, RewrapsHeld}
use Rattle.sn_rows.specs.declared.body.RowBody.{RowBody}
use Rattle.sn_rows.specs.declared.device_rows.LocalItem.{LocalItem}
use Rattle.sn_sets.specs.Sets.{OpensHeld}
use Rattle.sn_sets.specs.declared.sets.Sets.{Sets}
use Rattle.sn_string.specs.declared.params.KeySet.{KeySet}

-- a row of which nothing opens stays as it is, and nothing is drawn for it
abbrev pub ClosedStays : Type 0
ClosedStays = (sets : Sets) (set : KeySet) (words : ChaCha) (local : LocalItem) → HasNoneOpen sets local → Rekeys sets set words local local words

-- something of a row opens, or nothing does
abbrev pub OpenOrNot : Type 0
OpenOrNot = (sets : Sets) (local : LocalItem) → HasOpen sets local → ¬ (HasNoneOpen sets local)

-- what opens under a set that is held is the item of the same content under the new set, once it is sealed again
abbrev pub SameContent : Type 0
SameContent = (sets : Sets) (set : KeySet) (words : ChaCha) (uuid : Bytes) (given again : Sealed) (left : ChaCha) (text : Bytes)
    → RewrapsHeld sets set words uuid given again left → OpensHeld sets uuid given text → OpensItem again uuid set text

-- a place with a version has one afterwards, which that became
abbrev pub VersionStays : Type 0
VersionStays = (sets : Sets) (set : KeySet) (words : ChaCha) (uuid : Bytes) (again : Bool) (before : RowBody) (after : Option RowBody) (left : ChaCha)
    → RewrapsPlace sets set words uuid again (Some before) after left
    → (body : RowBody) × (after ≡ Some body) × IsRewrapped sets set words uuid before body left

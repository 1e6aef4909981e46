-- What holds of all sets, and of whatever is sealed.
use Rattle.std.specs.Prelude.{◌≡◌, ◌≤◌, ℕ, List, length}
use Rattle.rand_chacha.specs.ChaCha.{ChaCha}
use Rattle.sn_items.specs.Items.{OpensItem}
use Rattle.sn_items.specs.declared.sealed.Sealed.{Sealed}
use Rattle.sn_rows.specs.Bounds.{HasDeviceLengths, HasLength}
use Rattle.sn_rows.specs.declared.body.RowStrings.{RowStrings}
use Rattle.sn_sets.specs.Seals.{IsLater, longest_sealed}
use Rattle.sn_sets.specs.Sets.{OpensHeld, sealed_of}
use Rattle.sn_sets.specs.declared.sets.Sets.{Sets}
use Rattle.sn_string.specs.Bounds.{longest_content, most_string}
use Rattle.sn_string.specs.declared.params.KeySet.{KeySet}

-- strings open to one content at most
abbrev pub OneHeld : Type 0
OneHeld = (sets : Sets) (uuid : List ℕ) (sealed : Sealed) (text other : List ℕ)
    → OpensHeld sets uuid sealed text → OpensHeld sets uuid sealed other → text ≡ other

-- an item of a content within the bound has strings that fit a device's row
abbrev pub FitsDevice : Type 0
FitsDevice = (sealed : Sealed) (uuid : List ℕ) (set : KeySet) (text : List ℕ)
    → OpensItem sealed uuid set text → length text ≤ longest_sealed → HasDeviceLengths sealed.content × HasDeviceLengths sealed.enc

-- one of a content of 700,000 bytes at most has strings that fit a server's
abbrev pub FitsServer : Type 0
FitsServer = (sealed : Sealed) (uuid : List ℕ) (set : KeySet) (text : List ℕ)
    → OpensItem sealed uuid set text → length text ≤ longest_content → HasLength 0 most_string sealed.content × HasLength 0 most_string sealed.enc

-- what the strings of a row open to is within the bound
abbrev pub OpenedIsShort : Type 0
OpenedIsShort = (sets : Sets) (uuid : List ℕ) (strings : RowStrings) (text : List ℕ)
    → OpensHeld sets uuid (sealed_of strings) text → length text ≤ longest_sealed

-- where nothing is drawn, all words are left
abbrev pub LaterAtOnce : Type 0
LaterAtOnce = (words : ChaCha) → IsLater words words

-- what is left of what was left of the words is left of them
abbrev pub LaterAgain : Type 0
LaterAgain = (words middle left : ChaCha) → IsLater words middle → IsLater middle left → IsLater words left

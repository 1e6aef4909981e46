-- What a device opens with the key sets that it holds.
use Rattle.std.specs.Prelude.{◌≡◌, ◌⊎◌, ℕ, List, Some}
use Rattle.sn_items.specs.Items.{OpensItem}
use Rattle.sn_items.specs.declared.sealed.Sealed.{Sealed}
use Rattle.sn_rows.specs.declared.body.RowStrings.{RowStrings}
use Rattle.sn_sets.specs.declared.sets.Sets.{Sets}
use Rattle.sn_string.specs.declared.params.KeySet.{KeySet}

-- the two strings of a device's row
abbrev pub sealed_of : RowStrings → Sealed
sealed_of strings = record { content = strings.content; enc = strings.enc }

-- the strings are no item under the set
abbrev pub OpensNot : KeySet → List ℕ → Sealed → Type 0
OpensNot set uuid sealed = (text : List ℕ) → ¬ (OpensItem sealed uuid set text)

-- under the older set, where not under the present one
pub record OpensOlder (sets : Sets) (uuid : List ℕ) (sealed : Sealed) (text : List ℕ) : Type 0 where
  pub not_present : OpensNot sets.present uuid sealed
  pub set : KeySet
  pub held : sets.older ≡ Some set
  pub opens : OpensItem sealed uuid set text

-- the strings are the item of this uuid and content under a set that is held. One that is asked for is not yet held
abbrev pub OpensHeld : Sets → List ℕ → Sealed → List ℕ → Type 0
OpensHeld sets uuid sealed text = OpensItem sealed uuid sets.present text ⊎ OpensOlder sets uuid sealed text

-- and under none
abbrev pub OpensNowhere : Sets → List ℕ → Sealed → Type 0
OpensNowhere sets uuid sealed = (text : List ℕ) → ¬ (OpensHeld sets uuid sealed text)

-- What sealing a content for a device's row draws and writes, and how long such a content is.
use Rattle.std.specs.Prelude.{◌≡◌, ℕ, List, [], ◌∷◌}
use Rattle.rand_chacha.specs.ChaCha.{ChaCha}
use Rattle.sn_items.specs.Draws.{drawn}
use Rattle.sn_items.specs.Items.{IsDrawn, IsItemSealed, OpensItem}
use Rattle.sn_rows.specs.declared.body.RowStrings.{RowStrings}
use Rattle.sn_sets.specs.Sets.{sealed_of}
use Rattle.sn_string.specs.declared.params.KeySet.{KeySet}

-- the words that are left after draws of so many bytes, one after another
abbrev pub left_after : List ℕ → ChaCha → ChaCha
left_after [] words = words
left_after (size ∷ sizes) words = left_after sizes (drawn size words).1

-- these are left of the words after some draws
abbrev pub IsLater : ChaCha → ChaCha → Type 0
IsLater words left = (sizes : List ℕ) × (left ≡ left_after sizes words)

-- a text of so many bytes fits a row's string when sealed, and no longer one does
abbrev pub longest_sealed : ℕ
longest_sealed = 786319

-- the strings are this content of the item, sealed under the set with the next of the words, and so they open to it
pub record Seals (words : ChaCha) (set : KeySet) (uuid text : List ℕ) (strings : RowStrings) (left : ChaCha) : Type 0 where
  pub item_key : List ℕ
  pub content_iv : List ℕ
  pub enc_iv : List ℕ
  pub is_drawn : IsDrawn words item_key content_iv enc_iv left
  pub is_sealed : IsItemSealed text uuid item_key content_iv enc_iv set (sealed_of strings)
  pub opens : OpensItem (sealed_of strings) uuid set text

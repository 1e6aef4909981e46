-- Key sets by their numbers, and what sealed strings open to under them.
use Rattle.std.specs.Prelude.{◌≡◌, ℕ, zero, suc, List, Option, Some, None, slice_get}
use Rattle.sn_items.specs.Items.{OpensItem}
use Rattle.sn_items.specs.declared.sealed.Sealed.{Sealed}
use Rattle.sn_laws.specs.Lookups.{Bytes}
use Rattle.sn_string.specs.declared.params.KeySet.{KeySet}

-- the set of this number; the first is number 1
abbrev pub set_at : ℕ → List KeySet → Option KeySet
set_at zero sets = None
set_at (suc n) sets = slice_get sets n

-- the strings are an item of this uuid and content under the set of this number
pub record OpensUnder (sets : List KeySet) (number : ℕ) (uuid : Bytes) (sealed : Sealed) (text : Bytes) : Type 0 where
  pub set : KeySet
  pub at : set_at number sets ≡ Some set
  pub opens : OpensItem sealed uuid set text

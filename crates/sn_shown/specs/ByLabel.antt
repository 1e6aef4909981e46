-- Lines of items by their labels.
use Rattle.std.specs.Prelude.{◌≡◌, ℕ, cond, if◌then◌else◌, Option, Some, None}
use Rattle.std.specs.BTreeMap.{BTreeMap, IsOrdered, get, is_at}
use Rattle.std.specs.Ordering.{nat_cmp}
use Rattle.sn_laws.specs.Lookups.{Bytes}
use Rattle.sn_report.specs.Labels.{Labels, is_labelled}

-- the line of an item, where it has one and a label
abbrev pub labelled_line : Labels → Bytes → Option Bytes → Option Bytes
labelled_line labels uuid line = if is_labelled labels uuid then line else None

-- lines by label, with one more or as they were
abbrev pub with_line : (ℕ → Option Bytes) → ℕ → Option Bytes → ℕ → Option Bytes
with_line found label None q = found q
with_line found label (Some line) q = cond (is_at (nat_cmp label) q) (Some line) (found q)

pub record AddsLine (before after : BTreeMap ℕ Bytes) (label : ℕ) (line : Option Bytes) : Type 0 where
  pub ordered : IsOrdered nat_cmp before → IsOrdered nat_cmp after
  pub found : (q : ℕ) → get nat_cmp after q ≡ with_line (get nat_cmp before) label line q

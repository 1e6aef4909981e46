-- The numbers of labels, by uuid.
use Rattle.std.specs.Prelude.{◌≡◌, ℕ, ◌<◌, length, All, Option, Some, None, if◌then◌else◌}
use Rattle.std.specs.BTreeMap.{BTreeMap, get}
use Rattle.std.specs.Cmp.Lexicographic.{slice_cmp}
use Rattle.std.specs.Ordering.{nat_cmp}
use Rattle.sn_laws.specs.Lookups.{Bytes}
use Rattle.sn_report.specs.Labels.{Labels, is_labelled, label_from}

-- sixteen bytes
pub record IsUuidBytes (uuid : Bytes) : Type 0 where
  pub count : length uuid ≡ 16
  pub fit : All (λ b. b < 256) uuid

-- the number of an item's label, where it has one
abbrev pub number_of : Labels → Bytes → Option ℕ
number_of labels uuid = if is_labelled labels uuid then Some (label_from 1 labels uuid) else None

-- the map has the number of each item that has a label, and no other
pub record AreNumbers (labels : Labels) (numbers : BTreeMap Bytes ℕ) : Type 0 where
  pub uuids : All IsUuidBytes labels
  pub found : (uuid : Bytes) → get (slice_cmp nat_cmp) numbers uuid ≡ number_of labels uuid

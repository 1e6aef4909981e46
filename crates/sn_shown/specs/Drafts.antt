-- The drafts that a device's rows show, and their lines.
use Rattle.std.specs.Prelude.{◌≡◌, ℕ, List, Option, Some, None}
use Rattle.sn_laws.specs.Lookups.{Bytes, draft_at}
use Rattle.sn_laws.specs.declared.ideal.Draft.{Draft}
use Rattle.sn_laws.specs.declared.ideal.Ideal.{Ideal}
use Rattle.sn_report.specs.Labels.{Labels}
use Rattle.sn_report.specs.Showing.{latest_text}
use Rattle.sn_rows.specs.Table.{Rows}
use Rattle.sn_rows.specs.declared.device_rows.LocalItem.{LocalItem}
use Rattle.sn_rows.specs.declared.key.Key.TheVariants as key
use Rattle.sn_rows.specs.declared.value.Value.TheVariants as value
use Rattle.sn_shows.specs.Devices.{HasRow, ShowsDrafted}
use Rattle.sn_shows.specs.Sets.{set_at}
use Rattle.sn_string.specs.declared.params.KeySet.{KeySet}

-- the rows show the drafts of a device, each sealed under this set
pub record ShowsDrafts (rows : Rows) (set : KeySet) (s : Ideal) (name : Bytes) : Type 0 where
  pub sets : List KeySet
  pub number : ℕ
  pub set_is : set_at number sets ≡ Some set
  pub shown : (n : ℕ) (item : LocalItem) → rows (key.Local n) ≡ Some (value.Local item) → ShowsDrafted sets number item (draft_at s name item.uuid)
  pub rows_of : (uuid : Bytes) (d : Draft) → draft_at s name uuid ≡ Some d → HasRow rows uuid

-- the line of an item's draft on a device, where it has one
abbrev pub line_of : Labels → Bytes → Bytes → Option Draft → Option Bytes
line_of labels name uuid None = None
line_of labels name uuid (Some d) = Some (latest_text labels name uuid d.latest)

-- The lines of what is closed to a device, as they are gathered.
use Rattle.std.proofs.Common.{◌≡◌, ℕ, Option, Some, None, refl}
use Rattle.sn_laws.specs.Lookups.{Bytes}
use Rattle.sn_report.specs.Labels.{Labels}
use Rattle.sn_report.specs.Showing.{closed_lines}
use Rattle.sn_rows.specs.Table.{Rows}
use Rattle.sn_shows.specs.Devices.{HasRow}
use Rattle.sn_shown.specs.Closed.{ShowsClosed, closed_line}
use Rattle.sn_shown.specs.declared.holding.Holding.{Holding}
use Rattle.sn_shown.specs.declared.numbers.Numbers.{Numbers}
use Rattle.sn_shown.proofs.LabelPlaces.{lines}

-- the line of an item that is closed
abbrev pub closed_of : Labels → Bytes → (Bytes → Option ℕ) → Bytes → Option Bytes
closed_of labels name closed uuid = closed_line labels name uuid (closed uuid)

-- an item with one has a row
pub closed_row : (rows : Rows) (labels : Labels) (numbers : Numbers) (h : Holding) (name : Bytes) (closed : Bytes → Option ℕ)
    → ShowsClosed rows numbers h closed → (uuid x : Bytes) → closed_of labels name closed uuid ≡ Some x → HasRow rows uuid
closed_row rows labels numbers h name closed shows uuid x e = at (closed uuid) refl e
  where
    at : (found : Option ℕ) → closed uuid ≡ found → closed_line labels name uuid found ≡ Some x → HasRow rows uuid
    at None is k = absurd (cc)
    at (Some under) is k = shows.rows_of uuid under is

pub one_closed_line : (labels : Labels) (name : Bytes) (closed : Bytes → Option ℕ) (uuid : Bytes)
    → lines (closed_of labels name closed uuid) ≡ closed_lines labels name uuid (closed uuid)
one_closed_line labels name closed uuid = at (closed uuid)
  where
    at : (found : Option ℕ) → lines (closed_line labels name uuid found) ≡ closed_lines labels name uuid found
    at None = refl
    at (Some under) = refl

use Rattle.std.specs.Prelude.{◌≡◌, ◌++◌, ℕ, Option, take}
use Rattle.std.specs.List.{flat_map}
use Rattle.sn_laws.specs.Lookups.{Bytes}
use Rattle.sn_laws.specs.declared.ideal.Ideal.{Ideal}
use Rattle.sn_report.specs.Showing.{device_lines}
use Rattle.sn_shows.specs.Devices.{ShowsDevice}
use Rattle.sn_shown.specs.Closed.{AreClosed}
use Rattle.sn_shown.specs.Held.{AreNumbers}
use Rattle.sn_shown.specs.Rows.{rows_in}
use Rattle.sn_shown.specs.Shown.{IsRegular}
use Rattle.sn_shown.proofs.device_lines.add_devices.Given as goal

abbrev pub invariant-names : goal.invariant-names
invariant-names g l = (s : Ideal) (closed : Bytes → Bytes → Option ℕ) → IsRegular s → ((name : Bytes) → ShowsDevice (rows_in (g.D.Devices.rows_of l.devices name)) s name)
    → AreNumbers l.numbers s.accounts → AreClosed (λ name. rows_in (g.D.Devices.rows_of l.devices name)) s closed
    → l.lines ≡ l.initial.lines ++ flat_map (device_lines l.labels s closed) (take l.name-index l.names)

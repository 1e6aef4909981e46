use Rattle.std.specs.Prelude.{take}
use Rattle.std.specs.BTreeMap.{get}
use Rattle.sn_laws.specs.Lookups.{Bytes}
use Rattle.sn_laws.specs.declared.ideal.Ideal.{Ideal}
use Rattle.sn_row_map.specs.Keys.{key_cmp}
use Rattle.sn_shows.specs.Devices.{ShowsDevice}
use Rattle.sn_shown.specs.Held.{AreNumbers, AreSetsOf}
use Rattle.sn_shown.specs.Rows.{rows_in}
use Rattle.sn_shown.specs.Shown.{IsRegular}
use Rattle.sn_shown.proofs.held.held_sets.Given as goal

abbrev pub invariant-names : goal.invariant-names
invariant-names g l = (s : Ideal) → IsRegular s → ((name : Bytes) → ShowsDevice (rows_in (g.D.Devices.rows_of l.devices name)) s name)
    → AreNumbers l.numbers s.accounts → AreSetsOf (get key_cmp l.sets) s (take l.name-index l.names)

use Rattle.std.specs.Prelude.{◌≡◌, map, take}
use Rattle.std.specs.BTreeMap.{get}
use Rattle.sn_laws.specs.declared.ideal.Ideal.{Ideal}
use Rattle.sn_report.specs.Labels.{items_of}
use Rattle.sn_row_map.specs.Keys.{key_cmp}
use Rattle.sn_row_map.specs.RowMaps.{row_in}
use Rattle.sn_shown.specs.Held.{AreNumbers, AreSets, IsServed}
use Rattle.sn_shown.specs.Lines.{lines_so_far}
use Rattle.sn_shown.proofs.account_lines.add_accounts.Given as goal

abbrev pub invariant-items : goal.invariant-items
invariant-items l = (s : Ideal) → IsServed (row_in l.server) s → AreNumbers l.numbers s.accounts → AreSets (get key_cmp l.sets) s.accounts
    → l.lists.items ≡ map (lines_so_far l.labels (take l.uuid-index (items_of l.labels))) s.accounts

use Rattle.std.specs.Prelude.{◌≡◌, [], map, take}
use Rattle.sn_laws.specs.declared.ideal.Ideal.{Ideal}
use Rattle.sn_row_map.specs.RowMaps.{row_in}
use Rattle.sn_shown.specs.Held.{IsServed}
use Rattle.sn_shown.specs.Lines.{lines_so_far}
use Rattle.sn_shown.proofs.account_lines.first_lists.Given as goal

abbrev pub invariant-accounts : goal.invariant-accounts
invariant-accounts l = (s : Ideal) → IsServed (row_in l.server) s → l.lists.items ≡ map (lines_so_far [] []) (take l.index s.accounts)

use Rattle.sn_laws.specs.declared.ideal.Ideal.{Ideal}
use Rattle.sn_row_map.specs.RowMaps.{row_in}
use Rattle.sn_shown.specs.Held.{IsServed}
use Rattle.sn_shown.proofs.NumberLemmas.{AreMaps}
use Rattle.sn_shown.proofs.numbers.set_numbers.Given as goal

abbrev pub invariant-accounts : goal.invariant-accounts
invariant-accounts l = (s : Ideal) → IsServed (row_in l.server) s → AreMaps l.sets.items s.accounts l.index

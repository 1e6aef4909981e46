use Rattle.std.specs.BTreeMap.{get_by_text}
use Rattle.sn_laws.specs.declared.ideal.Ideal.{Ideal}
use Rattle.sn_row_map.specs.RowMaps.{row_in}
use Rattle.sn_shown.specs.Held.{IsServed}
use Rattle.sn_shown.proofs.NumberLemmas.{Accounts, AreNumbersTo, identifier_of}
use Rattle.sn_shown.proofs.numbers.account_numbers.Given as goal

abbrev pub invariant-accounts : goal.invariant-accounts
invariant-accounts l = (s : Ideal) → IsServed (row_in l.server) s
    → AreNumbersTo (Accounts s.accounts) identifier_of (get_by_text l.numbers) l.index

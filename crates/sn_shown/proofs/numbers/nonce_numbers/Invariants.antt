use Rattle.std.proofs.Common.{◌≡◌, Some}
use Rattle.std.specs.BTreeMap.{get_by_text}
use Rattle.sn_laws.specs.declared.ideal.Account.{Account}
use Rattle.sn_laws.specs.declared.ideal.Ideal.{Ideal}
use Rattle.sn_row_map.specs.RowMaps.{row_in}
use Rattle.sn_shows.specs.Servers.{account_at}
use Rattle.sn_shown.specs.Held.{IsServed}
use Rattle.sn_shown.proofs.NumberLemmas.{AreNumbersTo, SetsOf, nonce_of}
use Rattle.sn_shown.proofs.numbers.nonce_numbers.Given as goal

abbrev pub invariant-sets : goal.invariant-sets
invariant-sets l = (s : Ideal) (a : Account) → IsServed (row_in l.server) s → account_at l.account s.accounts ≡ Some a
    → AreNumbersTo (SetsOf a) nonce_of (get_by_text l.numbers) l.index

-- The uuids so far are those of the items that were walked over.
use Rattle.std.proofs.Common.{◌≡◌, List, Some, length}
use Rattle.sn_laws.specs.declared.ideal.Account.{Account}
use Rattle.sn_row_map.specs.RowMaps.{row_in}
use Rattle.sn_row_map.specs.Steps.{lent}
use Rattle.sn_shows.specs.Servers.{ShowsAccounts, account_at}
use Rattle.sn_saying.proofs.RepostLemmas.{RepostedSoFar}
use Rattle.sn_saying.proofs.WalkLemmas.{ahead}
use Rattle.sn_saying.proofs.reposting.reposted.Given as goal

abbrev pub invariant-items : goal.invariant-items
invariant-items l = (accounts : List Account) (a : Account) → ShowsAccounts (row_in l.server) accounts → account_at l.number accounts ≡ Some a
    → RepostedSoFar l.rows a l.uuids (lent l.found)

abbrev pub decreases-items : goal.decreases-items
decreases-items l = length (ahead l.rows (lent l.found))

-- What is left has all items of the account.
use Rattle.std.proofs.Common.{false, length}
use Rattle.sn_account.specs.Pages.{AreAbove}
use Rattle.sn_account.specs.States.{state_rows}
use Rattle.sn_account.proofs.FoundLemmas.{found_of}
use Rattle.sn_account.proofs.pages.greatest.Given as goal

abbrev pub invariant-places : goal.invariant-places
invariant-places l = AreAbove (state_rows l.state) l.number 0 false (found_of (state_rows l.state) l.number 0 false l.places)

abbrev pub decreases-places : goal.decreases-places
decreases-places l = length l.places

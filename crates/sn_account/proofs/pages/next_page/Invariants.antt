use Rattle.sn_account.specs.States.{state_rows}
use Rattle.sn_account.proofs.FoundLemmas.{found_of}
use Rattle.sn_account.proofs.PageLemmas.{InPage}
use Rattle.sn_account.proofs.pages.next_page.Given as goal

abbrev pub invariant-places : goal.invariant-places
invariant-places l =
    InPage (state_rows l.state) l.number l.above l.first l.limit (found_of (state_rows l.state) l.number l.above l.first l.place-iterator) l.items l.last l.bytes

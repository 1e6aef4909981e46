use Rattle.std.proofs.Common.{◌≡◌, Some, None, ap}
use Rattle.sn_row_map.specs.Steps.{lent}
use Rattle.sn_account.specs.States.{state_rows}
use Rattle.sn_account.proofs.BehindLemmas.{unmarked_rows}
use Rattle.sn_account.proofs.SearchLemmas.{search_first, search_found, search_more, search_none}
use Rattle.sn_account.proofs.WalkLemmas.{walk_smaller}
use Rattle.sn_account.proofs.passwords.least_behind.Goals as goal

pub rows-init : goal.rows-init
rows-init c = search_first c.args.state.now.rows c.args.number c.args.present.now (lent c.first-found.result) c.first-found.ensures.walk

pub returns-in-Some-2-clause-some : goal.returns-in-Some-2-clause-some
returns-in-Some-2-clause-some c =
    let found : lent c.rows.found ≡ Some (c.in-Some.key.now, c.in-Some.value.now) = ap lent c.in-Some.is in
    search_found c.args.state.now.rows (state_rows c.args.state.now) c.args.number c.args.present.now c.in-Some.key.now c.in-Some.value.now
    (lent c.rows.found) c.in-Some-2.uuid c.rows.invariant c.first-found.ensures.rows (unmarked_rows c.args.state.now c.requires) found
    (rw c.in-Some-2.is at c.in_ok-uuid.ensures.some)

pub rows-preserved : goal.rows-preserved
rows-preserved c =
    let found : lent c.rows.found ≡ Some (c.in-Some.key.now, c.in-Some.value.now) = ap lent c.in-Some.is in
    search_more c.args.state.now.rows c.args.number c.args.present.now c.in-Some.key.now c.in-Some.value.now (lent c.rows.found)
    (lent c.next_after-found.result) c.rows.invariant found (rw c.in_default-2.is at c.in_ok-uuid.ensures.none) c.next_after-found.ensures.walk

pub rows-smaller : goal.rows-smaller
rows-smaller c =
    let found : lent c.rows.found ≡ Some (c.in-Some.key.now, c.in-Some.value.now) = ap lent c.in-Some.is in
    walk_smaller c.args.state.now.rows c.in-Some.key.now c.in-Some.value.now (lent c.rows.found) (lent c.next_after-found.result) found
    c.next_after-found.ensures.walk

pub returns-clause-none : goal.returns-clause-none
returns-clause-none c =
    let none : lent c.rows.found ≡ None = ap lent c.in_default.is in
    search_none c.args.state.now.rows (state_rows c.args.state.now) c.args.number c.args.present.now (lent c.rows.found) c.rows.invariant
    c.first-found.ensures.rows (unmarked_rows c.args.state.now c.requires) none

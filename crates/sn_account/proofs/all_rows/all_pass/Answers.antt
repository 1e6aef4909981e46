use Rattle.std.proofs.Common.{◌≡◌, Some, None, ap}
use Rattle.sn_row_map.specs.Steps.{lent}
use Rattle.sn_account.proofs.AllRows.{all_passed, not_passed, rows_first, rows_more}
use Rattle.sn_account.proofs.WalkLemmas.{walk_smaller}
use Rattle.sn_account.proofs.all_rows.all_pass.Goals as goal

pub rows-init : goal.rows-init
rows-init g c = rows_first (g.T.RowTest.holds c.args.test.now) c.args.map.now c.args.kind (lent c.first-found.result) c.first-found.ensures.walk

pub returns-then-not-branch : goal.returns-then-not-branch
returns-then-not-branch g c =
    let found : lent c.rows.found ≡ Some (c.in-Some.key.now, c.in-Some.value.now) = ap lent c.in-Some.is in
    not_passed (g.T.RowTest.holds c.args.test.now) c.args.map.now c.args.kind c.in-Some.key.now c.in-Some.value.now c.in_ok-passes.field-0
    (lent c.rows.found) c.rows.invariant c.first-found.ensures.rows found c.in_ok-passes.ensures c.if-not-branch.true

pub rows-preserved : goal.rows-preserved
rows-preserved g c =
    let found : lent c.rows.found ≡ Some (c.in-Some.key.now, c.in-Some.value.now) = ap lent c.in-Some.is in
    rows_more (g.T.RowTest.holds c.args.test.now) c.args.map.now c.args.kind c.in-Some.key.now c.in-Some.value.now (lent c.rows.found)
    (lent c.next_after-found.result) c.rows.invariant found (c.in_ok-passes.ensures.0 c.if-not-branch.false) c.next_after-found.ensures.walk

pub rows-smaller : goal.rows-smaller
rows-smaller g c =
    let found : lent c.rows.found ≡ Some (c.in-Some.key.now, c.in-Some.value.now) = ap lent c.in-Some.is in
    walk_smaller c.args.map.now c.in-Some.key.now c.in-Some.value.now (lent c.rows.found) (lent c.next_after-found.result) found
    c.next_after-found.ensures.walk

pub returns : goal.returns
returns g c =
    let none : lent c.rows.found ≡ None = ap lent c.in_default.is in
    all_passed (g.T.RowTest.holds c.args.test.now) c.args.map.now c.args.kind (lent c.rows.found) c.rows.invariant c.first-found.ensures.rows none

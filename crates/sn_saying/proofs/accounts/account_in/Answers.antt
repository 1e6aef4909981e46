use Rattle.std.proofs.Common.{◌≡◌, Some, None, ap, refl}
use Rattle.sn_row_map.specs.Steps.{lent}
use Rattle.sn_rows.specs.declared.key.Key.TheVariants as key
use Rattle.sn_rows.specs.declared.kind.RowKind.TheVariants as kind
use Rattle.sn_rows.specs.declared.value.Value.TheVariants as value
use Rattle.sn_saying.specs.Adopted.{IsAccountAt}
use Rattle.sn_saying.proofs.AccountLemmas.{account_here}
use Rattle.sn_saying.proofs.WalkLemmas.{walk_begins, walk_ends, walk_goes_on, walk_shorter}
use Rattle.sn_saying.proofs.accounts.account_in.Goals as goal

pub accounts-init : goal.accounts-init
accounts-init c =
    walk_begins (IsAccountAt c.args.identifier.now) c.args.server.now kind.Account (lent c.first-found.result)
    c.first-found.ensures.walk c.first-found.ensures.first

pub returns-in-Some-account_of-clause-some : goal.returns-in-Some-account_of-clause-some
returns-in-Some-account_of-clause-some c =
    let found : lent c.accounts.found ≡ Some (c.in-Some.at.now, c.in-Some.value.now) = ap lent c.in-Some.is in
    account_here c.args.server.now c.args.identifier.now c.in-Some.at.now c.in-Some.value.now c.in-Some-account_of.account
    (c.accounts.invariant.stands c.in-Some.at.now c.in-Some.value.now found) c.in-Some-account_of.ensures.some

pub accounts-preserved : goal.accounts-preserved
accounts-preserved c =
    let found : lent c.accounts.found ≡ Some (c.in-Some.at.now, c.in-Some.value.now) = ap lent c.in-Some.is in
    walk_goes_on (IsAccountAt c.args.identifier.now) c.args.server.now kind.Account c.in-Some.at.now c.in-Some.value.now
    (lent c.accounts.found) (lent c.next_after-found.result) c.accounts.invariant found c.in_default-account_of.ensures.none
    c.next_after-found.ensures.walk c.next_after-found.ensures.next

pub accounts-smaller : goal.accounts-smaller
accounts-smaller c =
    let found : lent c.accounts.found ≡ Some (c.in-Some.at.now, c.in-Some.value.now) = ap lent c.in-Some.is in
    walk_shorter c.args.server.now c.in-Some.at.now c.in-Some.value.now (lent c.accounts.found) (lent c.next_after-found.result) found
    c.next_after-found.ensures.walk

pub returns-clause-none : goal.returns-clause-none
returns-clause-none c = λ number row stands same.
    let none : lent c.accounts.found ≡ None = ap lent c.in_default.is in
    walk_ends (IsAccountAt c.args.identifier.now) c.args.server.now kind.Account (lent c.accounts.found) c.accounts.invariant c.first-found.ensures.rows none
    (key.Account number) (value.Account row) refl stands (number, row, refl, refl, same)

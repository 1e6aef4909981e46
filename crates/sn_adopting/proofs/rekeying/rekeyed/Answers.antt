use Rattle.std.proofs.Common.{◌≡◌, Some, None, ap}
use Rattle.sn_row_map.specs.Steps.{lent}
use Rattle.sn_sets.proofs.Facts.{later_again}
use Rattle.sn_local.proofs.Facts.{walk_shorter}
use Rattle.sn_adopting.proofs.RekeyLemmas.{all_rekeyed, none_rekeyed, one_rekeyed}
use Rattle.sn_adopting.proofs.rekeying.rekeyed.Goals as goal

pub items-init : goal.items-init
items-init c =
    none_rekeyed c.args.rows.now c.args.sets.now c.args.set.now c.args.words.now c.new-changes.result (lent c.first-found.result) c.new-changes.ensures
    c.first-found.ensures.walk

pub items-preserved : goal.items-preserved
items-preserved c =
    let found : lent c.items.found ≡ Some (c.in-Some.key.now, c.in-Some.value.now) = ap lent c.in-Some.is in
    one_rekeyed c.args.rows.now c.args.sets.now c.args.set.now c.args.words.now c.items.words c.rekey_row.new.words c.items.changes c.rekey_row.new.changes
    (lent c.items.found) (lent c.next_after-found.result) c.in-Some.key.now c.in-Some.value.now c.items.invariant found c.first-found.ensures.rows c.requires.kinds
    c.in_ok-rekey_row.ensures.added c.rekey_row.ensures.words c.next_after-found.ensures.walk

pub items-smaller : goal.items-smaller
items-smaller c =
    let found : lent c.items.found ≡ Some (c.in-Some.key.now, c.in-Some.value.now) = ap lent c.in-Some.is in
    walk_shorter c.args.rows.now c.in-Some.key.now c.in-Some.value.now (lent c.items.found) (lent c.next_after-found.result) found
    c.next_after-found.ensures.walk

pub returns-in_err-rekey_row-clause-words : goal.returns-in_err-rekey_row-clause-words
returns-in_err-rekey_row-clause-words c =
    later_again c.args.words.now c.items.words c.rekey_row.new.words c.items.invariant.later c.rekey_row.ensures.words

pub returns-clause-rekeys : goal.returns-clause-rekeys
returns-clause-rekeys c =
    let none : lent c.items.found ≡ None = ap lent c.in_default.is in
    all_rekeyed c.args.rows.now c.args.sets.now c.args.set.now c.args.words.now c.items.words c.items.changes (lent c.items.found) c.items.invariant none
    c.first-found.ensures.rows

pub returns-clause-owned : goal.returns-clause-owned
returns-clause-owned c = c.items.invariant.owned

pub returns-clause-words : goal.returns-clause-words
returns-clause-words c = c.items.invariant.later

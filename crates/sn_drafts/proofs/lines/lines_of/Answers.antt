use Rattle.std.proofs.Common.{◌≡◌, Some, None, ap}
use Rattle.sn_row_map.specs.Steps.{lent}
use Rattle.sn_local.proofs.Facts.{walk_shorter}
use Rattle.sn_drafts.proofs.LineLemmas.{all_listed, item_found, none_listed, one_listed}
use Rattle.sn_drafts.proofs.lines.lines_of.Goals as goal

pub items-init : goal.items-init
items-init c = none_listed c.args.rows.now c.args.sets.now c.new-lines.result (lent c.first-found.result) c.new-lines.ensures c.first-found.ensures.walk

pub push_line-requires : goal.push_line-requires
push_line-requires c =
    let found : lent c.items.found ≡ Some (c.in-Some.key.now, c.in-Some.value.now) = ap lent c.in-Some.is in
    let item = item_found c.args.rows.now c.args.sets.now c.items.lines (lent c.items.found) c.in-Some.key.now c.in-Some.value.now c.items.invariant found
    c.first-found.ensures.rows c.requires.kinds c.requires.sound in
    (item.local, item.is.1, item.sound)

pub items-preserved : goal.items-preserved
items-preserved c =
    let found : lent c.items.found ≡ Some (c.in-Some.key.now, c.in-Some.value.now) = ap lent c.in-Some.is in
    one_listed c.args.rows.now c.args.sets.now c.items.lines c.push_line.new.lines (lent c.items.found) (lent c.next_after-found.result)
    c.in-Some.key.now c.in-Some.value.now c.items.invariant found
    (item_found c.args.rows.now c.args.sets.now c.items.lines (lent c.items.found) c.in-Some.key.now c.in-Some.value.now c.items.invariant found
    c.first-found.ensures.rows c.requires.kinds c.requires.sound)
    c.in_ok-push_line.ensures c.next_after-found.ensures.walk

pub items-smaller : goal.items-smaller
items-smaller c =
    let found : lent c.items.found ≡ Some (c.in-Some.key.now, c.in-Some.value.now) = ap lent c.in-Some.is in
    walk_shorter c.args.rows.now c.in-Some.key.now c.in-Some.value.now (lent c.items.found) (lent c.next_after-found.result) found
    c.next_after-found.ensures.walk

pub returns : goal.returns
returns c =
    let none : lent c.items.found ≡ None = ap lent c.in_default.is in
    all_listed c.args.rows.now c.args.sets.now c.items.lines (lent c.items.found) c.items.invariant none c.first-found.ensures.rows

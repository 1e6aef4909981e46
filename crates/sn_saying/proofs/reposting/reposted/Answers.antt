use Rattle.std.proofs.Common.{◌≡◌, Some, None, ap}
use Rattle.std.specs.Option.{option_to_list}
use Rattle.sn_row_map.specs.Steps.{lent}
use Rattle.sn_saying.proofs.RepostLemmas.{all_reposted, none_reposted, one_reposted}
use Rattle.sn_saying.proofs.WalkLemmas.{walk_shorter}
use Rattle.sn_saying.proofs.reposting.reposted.Goals as goal

pub items-init : goal.items-init
items-init c = λ accounts a shows at.
    none_reposted c.args.rows.now a c.new-uuids.result (lent c.first-found.result) c.new-uuids.ensures c.first-found.ensures.walk

pub items-preserved : goal.items-preserved
items-preserved c = λ accounts a shows at.
    let found : lent c.items.found ≡ Some (c.in-Some.at.now, c.in-Some.value.now) = ap lent c.in-Some.is in
    one_reposted c.args.rows.now a c.items.uuids c.push_uuid.new.uuids (option_to_list c.reposted_uuid.result) (lent c.items.found)
    (lent c.next_after-found.result) c.in-Some.at.now c.in-Some.value.now (c.items.invariant accounts a shows at) found
    (c.reposted_uuid.ensures accounts a shows at) c.in_ok-push_uuid.ensures c.next_after-found.ensures.walk

pub items-smaller : goal.items-smaller
items-smaller c =
    let found : lent c.items.found ≡ Some (c.in-Some.at.now, c.in-Some.value.now) = ap lent c.in-Some.is in
    walk_shorter c.args.rows.now c.in-Some.at.now c.in-Some.value.now (lent c.items.found) (lent c.next_after-found.result) found
    c.next_after-found.ensures.walk

pub returns : goal.returns
returns c = λ accounts a shows at.
    let none : lent c.items.found ≡ None = ap lent c.in_default.is in
    all_reposted c.args.rows.now a c.items.uuids (lent c.items.found) (c.items.invariant accounts a shows at) none c.first-found.ensures.rows

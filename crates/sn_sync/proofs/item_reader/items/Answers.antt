use Rattle.std.proofs.Common.{arith, rules, ◌≡◌, ◌++◌, ◌∷◌, []}
use Rattle.serde_json.specs.Data.{no_items}
use Rattle.sn_json.specs.Views.{items_view, view}
use Rattle.sn_sync.specs.Items.{AreItems}
use Rattle.sn_sync.specs.Standings.{standing_of}
use Rattle.sn_sync.proofs.Lists.{AreItems-more, RefusesItems-more, all_there}
use Rattle.sn_sync.proofs.item_reader.items.Goals as goal

pub values-preserved : goal.values-preserved
values-preserved c =
    let s = standing_of c.args.standing in
    let whole = items_view c.args.values in
    let left = items_view c.values.left in
    let rest = items_view c.in-Some.rest in
    let d = view c.in-Some.value in
    let i = c.in_ok-item.field-0 in
    let added : c.push.new.self ≡ c.values.items ++ i ∷ [] = search rules in
    record {
      items = rw added (AreItems-more s left rest whole d c.values.items i c.in-Some.ensures c.values.invariant.items c.in_ok-item.ensures.ok);
      refusals = RefusesItems-more s c.args.outer.now left rest whole d i c.in-Some.ensures c.values.invariant.refusals c.in_ok-item.ensures.ok;
    }

pub returns-clause-ok : goal.returns-clause-ok
returns-clause-ok c =
    let over : items_view c.values.left ≡ no_items = grind arith in
    all_there (AreItems (standing_of c.args.standing)) (items_view c.values.left) (items_view c.args.values) c.values.items tt over c.values.invariant.items

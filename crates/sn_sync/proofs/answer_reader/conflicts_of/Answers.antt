use Rattle.std.proofs.Common.{arith, rules, ◌≡◌, ◌++◌, ◌∷◌, []}
use Rattle.serde_json.specs.Data.{no_items}
use Rattle.sn_json.specs.Views.{items_view, view}
use Rattle.sn_sync.specs.Answers.{AreConflicts}
use Rattle.sn_sync.proofs.Lists.{AreConflicts-more, RefusesConflicts-more, all_there}
use Rattle.sn_sync.proofs.answer_reader.conflicts_of.Goals as goal

pub values-preserved : goal.values-preserved
values-preserved c =
    let whole = items_view c.args.values in
    let left = items_view c.values.left in
    let rest = items_view c.in-Some.rest in
    let d = view c.in-Some.value in
    let conflict = c.in_ok-conflict.field-0 in
    let added : c.push.new.self ≡ c.values.conflicts ++ conflict ∷ [] = search rules in
    record {
      conflicts = rw added (AreConflicts-more left rest whole d c.values.conflicts conflict c.in-Some.ensures c.values.invariant.conflicts c.in_ok-conflict.ensures.ok);
      refusals = RefusesConflicts-more left rest whole d conflict c.in-Some.ensures c.values.invariant.refusals c.in_ok-conflict.ensures.ok;
    }

pub returns-clause-ok : goal.returns-clause-ok
returns-clause-ok c =
    let over : items_view c.values.left ≡ no_items = grind arith in
    all_there AreConflicts (items_view c.values.left) (items_view c.args.values) c.values.conflicts tt over c.values.invariant.conflicts

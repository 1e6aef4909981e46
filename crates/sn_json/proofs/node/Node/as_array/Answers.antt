use Rattle.json.specs.Value.{items_view as trees_view, value_view}
use Rattle.sn_json.specs.Views.{items_view, view}
use Rattle.sn_json.proofs.Lookups.{as_array-none, as_array-some}
use Rattle.sn_json.proofs.node.Node.as_array.Goals as goal

pub invariant_of-result : goal.invariant_of-result
invariant_of-result c =
    let found = as_array-some (value_view c.args.self.value.now) (trees_view c.in-Some.values.now) c.args.self.has_data c.in-Some.ensures in
    record { have_data = found.0 }

pub returns-in-Some : goal.returns-in-Some
unfolding view items_view
returns-in-Some c = (as_array-some (value_view c.args.self.value.now) (trees_view c.in-Some.values.now) c.args.self.has_data c.in-Some.ensures).1

pub returns-in-None : goal.returns-in-None
unfolding view
returns-in-None c = as_array-none (value_view c.args.self.value.now) c.args.self.has_data c.in-None.ensures

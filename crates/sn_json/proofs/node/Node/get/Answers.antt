use Rattle.json.specs.Value.{value_view}
use Rattle.sn_json.specs.Views.{view}
use Rattle.sn_json.proofs.Lookups.{get-none, get-some}
use Rattle.sn_json.proofs.node.Node.get.Goals as goal

pub invariant_of-result : goal.invariant_of-result
invariant_of-result c =
    let found = get-some c.args.name.now (value_view c.args.self.value.now) (value_view c.in-Some.value.now) c.args.self.has_data c.in-Some.ensures in
    record { has_data = found.0 }

pub returns-in-Some : goal.returns-in-Some
unfolding view
returns-in-Some c = (get-some c.args.name.now (value_view c.args.self.value.now) (value_view c.in-Some.value.now) c.args.self.has_data c.in-Some.ensures).1

pub returns-in-None : goal.returns-in-None
unfolding view
returns-in-None c = get-none c.args.name.now (value_view c.args.self.value.now) c.args.self.has_data c.in-None.ensures

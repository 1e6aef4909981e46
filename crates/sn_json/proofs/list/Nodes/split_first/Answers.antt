use Rattle.sn_json.specs.Views.{items_view, view}
use Rattle.sn_json.proofs.Lookups.{first_of, none_left}
use Rattle.sn_json.proofs.list.Nodes.split_first.Goals as goal

pub returns-in-Some : goal.returns-in-Some
unfolding view items_view
returns-in-Some c = (first_of c.args.self.values.now c.in-Some.value.now c.in-Some.values.now c.in-Some.ensures.cases.0 c.args.self.have_data).2

pub returns-in-None : goal.returns-in-None
unfolding items_view
returns-in-None c = none_left c.args.self.values.now c.in-None.ensures.cases

use Rattle.std.proofs.Common.{◌∙◌}
use Rattle.json.specs.Value.{value_view}
use Rattle.sn_json.specs.Views.{view}
use Rattle.sn_json.proofs.Lookups.{is_object-data}
use Rattle.sn_json.proofs.node.Node.is_object.Goals as goal

pub returns : goal.returns
unfolding view
returns c = c.is_object.ensures ∙ is_object-data (value_view c.args.self.value.now) c.args.self.has_data

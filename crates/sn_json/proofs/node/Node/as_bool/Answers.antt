use Rattle.std.proofs.Common.{◌∙◌}
use Rattle.json.specs.Value.{value_view}
use Rattle.sn_json.specs.Views.{view}
use Rattle.sn_json.proofs.Lookups.{as_bool-data}
use Rattle.sn_json.proofs.node.Node.as_bool.Goals as goal

pub returns : goal.returns
unfolding view
returns c = c.as_bool.ensures ∙ as_bool-data (value_view c.args.self.value.now) c.args.self.has_data

use Rattle.std.proofs.Common.{◌∙◌}
use Rattle.json.specs.Value.{value_view}
use Rattle.sn_json.specs.Views.{view}
use Rattle.sn_json.proofs.Lookups.{is_null-data}
use Rattle.sn_json.proofs.node.Node.is_null.Goals as goal

pub returns : goal.returns
unfolding view
returns c = c.is_null.ensures ∙ is_null-data (value_view c.args.self.value.now) c.args.self.has_data

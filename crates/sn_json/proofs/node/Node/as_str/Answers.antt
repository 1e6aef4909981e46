use Rattle.std.proofs.Common.{◌∙◌}
use Rattle.json.specs.Value.{value_view}
use Rattle.sn_json.specs.Views.{view}
use Rattle.sn_json.proofs.Lookups.{as_str-data}
use Rattle.sn_json.proofs.node.Node.as_str.Goals as goal

pub returns : goal.returns
unfolding view
returns c = c.as_str.ensures ∙ as_str-data (value_view c.args.self.value.now) c.args.self.has_data

use Rattle.std.proofs.Common.{option_and_then, ap, ◌∙◌}
use Rattle.json.specs.Value.{value_view}
use Rattle.serde_json.specs.Find.{as_u64}
use Rattle.serde_json.specs.Read.{number_of}
use Rattle.sn_json.specs.Views.{view}
use Rattle.sn_json.proofs.Lookups.{as_number-data}
use Rattle.sn_json.proofs.node.Node.as_u64.Goals as goal

pub returns-in_err-as_number : goal.returns-in_err-as_number
unfolding view
returns-in_err-as_number c =
    let number = as_number-data (value_view c.args.self.value.now) c.args.self.has_data in
    rw c.from_residual.ensures (ap (λ s. option_and_then as_u64 (option_and_then number_of s)) c.in_err-as_number.ensures ∙ ap (option_and_then as_u64) number)

pub returns : goal.returns
unfolding view
returns c =
    let number = as_number-data (value_view c.args.self.value.now) c.args.self.has_data in
    c.unsigned.ensures ∙ ap (λ s. option_and_then as_u64 (option_and_then number_of s)) c.in_ok-as_number.ensures ∙ ap (option_and_then as_u64) number

use Rattle.std.proofs.Common.{string_bytes}
use Rattle.std.proofs.lemmas.Result.{IfOk-weaker}
use Rattle.std.proofs.lemmas.Str.{IsUtf8-string_bytes}
use Rattle.serde_json.specs.View.{view}
use Rattle.sn_string.proofs.ParamsFacts.{params_json-written, IsParamsJson-written}
use Rattle.sn_string.proofs.params_part.escaped_text.Goals as goal

pub returns-clause-text : goal.returns-clause-text
returns-clause-text c =
    let same = c.in_ok-params_value.ensures in
    IfOk-weaker c.to_string.result _ _ (λ s. params_json-written (view c.in_ok-params_value.field-0) c.args.params.now (string_bytes s) same) c.to_string.ensures.text

pub returns-clause-reads : goal.returns-clause-reads
returns-clause-reads c =
    let same = c.in_ok-params_value.ensures in
    IfOk-weaker c.to_string.result _ _ (λ s. IsParamsJson-written (view c.in_ok-params_value.field-0) c.args.params.now (string_bytes s) same (IsUtf8-string_bytes s)) c.to_string.ensures.reads_back

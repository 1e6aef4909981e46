use Rattle.std.proofs.Common.{string_bytes, ◌≡◌, ◌∙◌, List, ℕ, subst, sym}
use Rattle.std.proofs.lemmas.Result.{IfOk-weaker}
use Rattle.sn_string.specs.Parameters.{IsParamsJson, params_json}
use Rattle.sn_string.proofs.Written.{params_text-base64, IsParamsPart-base64}
use Rattle.sn_string.proofs.params_part.params_text.Goals as goal

pub returns-clause-text : goal.returns-clause-text
returns-clause-text c =
    let same : c.as_bytes.result.now ≡ params_json c.args.params.now = c.as_bytes.ensures.value ∙ c.in_ok-json.ensures.text in
    IfOk-weaker c.base64_text.result _ _ (λ s encoded. params_text-base64 c.args.params.now (string_bytes s) c.as_bytes.result.now encoded same) c.base64_text.ensures

pub returns-clause-reads : goal.returns-clause-reads
returns-clause-reads c =
    let same : c.as_bytes.result.now ≡ params_json c.args.params.now = c.as_bytes.ensures.value ∙ c.in_ok-json.ensures.text in
    let P : List ℕ → Type 0 = λ json. IsParamsJson json c.args.params.now in
    let members : P c.as_bytes.result.now = subst P (sym c.as_bytes.ensures.value) c.in_ok-json.ensures.reads in
    IfOk-weaker c.base64_text.result _ _ (λ s encoded. IsParamsPart-base64 c.args.params.now (string_bytes s) c.as_bytes.result.now encoded same members) c.base64_text.ensures

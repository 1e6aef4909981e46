use Rattle.std.proofs.Common.{rules}
use Rattle.std.proofs.lemmas.Result.{IfOk-weaker}
use Rattle.sn_string.specs.Base64.{IsBase64}
use Rattle.sn_string.proofs.Base64Facts.{IsParamsJson-part}
use Rattle.sn_string.proofs.Cases.{IfNone-weaker}
use Rattle.sn_string.proofs.params_part.params_read.Goals as goal

pub returns-clause-none : goal.returns-clause-none
returns-clause-none c =
    let encoded : IsBase64 c.args.part.now c.as_slice.result.now = search rules in
    IfOk-weaker c.params_of_json.result _ _ (λ found none. IfNone-weaker found _ _ (λ no p part. no p (IsParamsJson-part _ _ p encoded part)) none) c.params_of_json.ensures.none

use Rattle.sn_string.proofs.Written.{IsParamsPart-base64}
use Rattle.sn_string.proofs.plain_params.is_plain_part_of.Goals as goal

pub returns-in-Some : goal.returns-in-Some
returns-in-Some c = λ yes.
    IsParamsPart-base64 c.args.params.now c.args.part.now _ (c.is_base64_of.ensures yes) c.in-Some.ensures.json.1 c.in-Some.ensures.json.0

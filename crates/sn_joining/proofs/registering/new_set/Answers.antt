use Rattle.std.proofs.lemmas.Result.{IfOk-weaker}
use Rattle.sn_joining.proofs.SetLemmas.{set_with}
use Rattle.sn_joining.proofs.registering.new_set.Goals as goal

pub returns : goal.returns
returns c =
    IfOk-weaker c.derive.result _ _
    (λ set keys. set_with c.args.nonce.now c.args.identifier.now c.args.password.now c.args.cost c.in_ok-params.params set c.in_ok-params.ensures keys)
    c.derive.ensures

use Rattle.std.proofs.Common.{subst}
use Rattle.sn_keys.specs.Keys.{AreKeysOf}
use Rattle.sn_bench.proofs.keys.keys_of.Goals as goal

pub returns-in-Ok : goal.returns-in-Ok
returns-in-Ok c = (
  c.in_ok-params.params,
  c.in_ok-params.ensures,
  subst (λ text. AreKeysOf text c.in_ok-params.params c.in-Ok.set) c.in_ok-password.ensures c.in-Ok.ensures,
)

use Rattle.std.proofs.Common.{refl}
use Rattle.std.proofs.lemmas.Result.{IfOk-weaker}
use Rattle.sn_account.proofs.passwords.next_account.Goals as goal

pub returns : goal.returns
returns c = IfOk-weaker c.put_account.result _ _ (λ change puts. record {
  row = _;
  puts = puts;
  identifier_is = c.in_ok-identifier.ensures;
  generation_is = refl;
  check_is = c.check_of-check.ensures;
}) c.put_account.ensures

use Rattle.std.proofs.Common.{◌∙◌}
use Rattle.sn_account.proofs.passwords.next_generation.Goals as goal

pub returns : goal.returns
returns c = record {
  row = _;
  puts = c.put_generation.ensures;
  cost_is = c.in-Some.ensures.parts.0;
  nonce_is = c.in-Some.ensures.parts.1 ∙ c.in_ok-nonce.ensures;
}

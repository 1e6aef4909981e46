use Rattle.std.proofs.Common.{◌∙◌}
use Rattle.sn_account.proofs.accounts.first_account.Goals as goal

pub returns : goal.returns
returns c = record {
  row = _;
  puts = c.in_ok-change-in-Some.ensures;
  identifier_is = c.in-Some.ensures.parts.0 ∙ c.in_ok-identifier.ensures;
  generation_is = c.in-Some.ensures.parts.1;
  check_is = c.in-Some.ensures.parts.2 ∙ c.check_of.ensures;
}

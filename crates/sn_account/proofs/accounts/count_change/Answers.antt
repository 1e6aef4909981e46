use Rattle.std.proofs.Common.{◌∙◌, add-one}
use Rattle.sn_account.proofs.accounts.count_change.Goals as goal

pub returns : goal.returns
returns c = record {
  row = _;
  puts = c.put_store.ensures;
  secret = c.in-Some.ensures.parts.0;
  last = c.in-Some.ensures.parts.1;
  accounts = c.in-Some.ensures.parts.2 ∙ add-one c.args.store.now.accounts;
}

use Rattle.std.proofs.Common.{rules}
use Rattle.sn_account.proofs.sessions.session.Goals as goal

pub returns-then-eq-clause-some : goal.returns-then-eq-clause-some
returns-then-eq-clause-some c = record {
  store = c.in-Some.store.now;
  stands = search rules;
  account = c.in-Some-account.account.now;
  there = search rules;
  is = search rules;
}

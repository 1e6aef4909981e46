use Rattle.sn_world.proofs.AccountCalls.{sign_ins_go}
use Rattle.sn_world.proofs.laws.sign_ins_go.Goals as goal

pub returns : goal.returns
returns c = sign_ins_go (record {
  apart = c.accounts_apart.ensures;
  keeps = c.keeps.ensures;
  says = c.says_some.ensures;
  registered = c.registered_begins.ensures;
  begins = c.signed_in_begins.ensures;
})

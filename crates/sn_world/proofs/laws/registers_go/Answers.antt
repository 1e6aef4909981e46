use Rattle.sn_world.proofs.AccountCalls.{registers_go}
use Rattle.sn_world.proofs.laws.registers_go.Goals as goal

pub returns : goal.returns
returns c = registers_go (record {
  apart = c.accounts_apart.ensures;
  keeps = c.keeps.ensures;
  says = c.says_some.ensures;
  registered = c.registered_begins.ensures;
  begins = c.signed_in_begins.ensures;
})

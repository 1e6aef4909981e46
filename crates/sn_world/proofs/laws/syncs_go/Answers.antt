use Rattle.sn_world.proofs.SyncCalls.{syncs_go}
use Rattle.sn_world.proofs.laws.syncs_go.Goals as goal

pub returns : goal.returns
returns c = syncs_go (record {
  apart = c.accounts_apart.ensures;
  commit = c.keeps_committing.ensures;
  make = c.keeps_making.ensures;
  serve = c.keeps_serving.ensures;
  tells = c.served_tells.ensures;
  sends = c.sends_are_posted.ensures;
  says = c.says_some.ensures;
}) c.keeps.ensures c.says_some.ensures

use Rattle.sn_world.proofs.RoundLemmas.{rounds_go}
use Rattle.sn_world.proofs.laws.rounds_go.Goals as goal

pub returns : goal.returns
returns c = rounds_go (record {
  apart = c.accounts_apart.ensures;
  commit = c.keeps_committing.ensures;
  make = c.keeps_making.ensures;
  serve = c.keeps_serving.ensures;
  tells = c.served_tells.ensures;
  sends = c.sends_are_posted.ensures;
  says = c.says_some.ensures;
})

use Rattle.sn_world.proofs.Traced.{keeps_each}
use Rattle.sn_world.proofs.laws.keeps.Goals as goal

pub returns : goal.returns
returns c = keeps_each c.keeps_starting.ensures c.keeps_making.ensures c.keeps_serving.ensures c.keeps_committing.ensures

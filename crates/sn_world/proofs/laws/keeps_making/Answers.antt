use Rattle.sn_world.proofs.MadeBy.{keeps_making}
use Rattle.sn_world.proofs.laws.keeps_making.Goals as goal

pub returns : goal.returns
returns c = keeps_making c.accounts_apart.ensures c.makes_live.ensures

use Rattle.sn_world.proofs.Whole.{applied_whole}
use Rattle.sn_world.proofs.laws.applied_whole.Goals as goal

pub returns : goal.returns
returns c = applied_whole c.accounts_apart.ensures

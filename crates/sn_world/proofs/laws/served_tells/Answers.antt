use Rattle.sn_world.proofs.ServedTells.{served_tells}
use Rattle.sn_world.proofs.laws.served_tells.Goals as goal

pub returns : goal.returns
returns c = served_tells c.accounts_apart.ensures c.syncs_tell.ensures c.keeps_serving.ensures

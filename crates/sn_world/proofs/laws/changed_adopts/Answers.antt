use Rattle.sn_world.proofs.ChangeAdopts.{changed_adopts}
use Rattle.sn_world.proofs.laws.changed_adopts.Goals as goal

pub returns : goal.returns
returns c = changed_adopts c.accounts_apart.ensures c.change_served.ensures c.change_leaves.ensures

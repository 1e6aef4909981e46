use Rattle.sn_changed.proofs.Left.{change_leaves}
use Rattle.sn_changed.proofs.leaving_laws.change_leaves.Goals as goal

pub returns : goal.returns
returns c = change_leaves

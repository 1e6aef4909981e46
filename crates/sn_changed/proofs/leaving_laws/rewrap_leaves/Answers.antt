use Rattle.sn_changed.proofs.Left.{rewrap_leaves}
use Rattle.sn_changed.proofs.leaving_laws.rewrap_leaves.Goals as goal

pub returns : goal.returns
returns c = rewrap_leaves

use Rattle.sn_changed.proofs.Left.{change_on_last}
use Rattle.sn_changed.proofs.leaving_laws.change_on_last.Goals as goal

pub returns : goal.returns
returns c = change_on_last

use Rattle.sn_changed.proofs.Left.{change_lasts}
use Rattle.sn_changed.proofs.leaving_laws.change_lasts.Goals as goal

pub returns : goal.returns
returns c = change_lasts

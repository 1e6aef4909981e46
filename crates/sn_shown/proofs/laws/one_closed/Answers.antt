use Rattle.sn_shown.proofs.ClosedRows.{one_closed}
use Rattle.sn_shown.proofs.laws.one_closed.Goals as goal

pub returns : goal.returns
returns c = one_closed

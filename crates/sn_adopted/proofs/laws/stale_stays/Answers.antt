use Rattle.sn_adopted.proofs.Staying.{stale_stays}
use Rattle.sn_adopted.proofs.laws.stale_stays.Goals as goal

pub returns : goal.returns
returns c = stale_stays

use Rattle.sn_changed.proofs.Stale.{stale_behind}
use Rattle.sn_changed.proofs.laws.stale_behind.Goals as goal

pub returns : goal.returns
returns c = stale_behind

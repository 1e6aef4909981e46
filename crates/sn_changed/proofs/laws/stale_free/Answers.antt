use Rattle.sn_changed.proofs.Stale.{stale_free}
use Rattle.sn_changed.proofs.laws.stale_free.Goals as goal

pub returns : goal.returns
returns c = stale_free c.one_stamp.ensures

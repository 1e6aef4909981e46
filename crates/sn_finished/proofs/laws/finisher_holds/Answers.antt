use Rattle.sn_finished.proofs.HeldLemmas.{finisher_holds}
use Rattle.sn_finished.proofs.laws.finisher_holds.Goals as goal

pub returns : goal.returns
returns c = finisher_holds c.devices_hold.ensures

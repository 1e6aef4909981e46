use Rattle.sn_finished.proofs.HeldLemmas.{devices_retire}
use Rattle.sn_finished.proofs.laws.devices_retire.Goals as goal

pub returns : goal.returns
returns c = devices_retire c.devices_hold.ensures

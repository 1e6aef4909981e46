use Rattle.sn_device.proofs.Well.{stay_standing}
use Rattle.sn_device.proofs.laws.stay_standing.Goals as goal

pub returns : goal.returns
returns c = stay_standing

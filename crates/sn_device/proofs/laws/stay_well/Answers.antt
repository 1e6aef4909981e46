use Rattle.sn_device.proofs.Well.{stay_well}
use Rattle.sn_device.proofs.laws.stay_well.Goals as goal

pub returns : goal.returns
returns c = stay_well

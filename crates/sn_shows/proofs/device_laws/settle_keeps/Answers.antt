use Rattle.sn_shows.proofs.DeviceKeeps.{settle_keeps}
use Rattle.sn_shows.proofs.device_laws.settle_keeps.Goals as goal

pub returns : goal.returns
returns c = settle_keeps

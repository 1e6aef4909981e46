use Rattle.sn_shows.proofs.DeviceKeeps.{join_keeps}
use Rattle.sn_shows.proofs.device_laws.join_keeps.Goals as goal

pub returns : goal.returns
returns c = join_keeps

use Rattle.sn_shows.proofs.DeviceKeeps.{edit_keeps}
use Rattle.sn_shows.proofs.device_laws.edit_keeps.Goals as goal

pub returns : goal.returns
returns c = edit_keeps

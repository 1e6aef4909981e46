use Rattle.sn_shows.proofs.DeviceKeeps.{post_keeps}
use Rattle.sn_shows.proofs.device_laws.post_keeps.Goals as goal

pub returns : goal.returns
returns c = post_keeps

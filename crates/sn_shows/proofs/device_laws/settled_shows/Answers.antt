use Rattle.sn_shows.proofs.DeviceDrafts.{settled_shows}
use Rattle.sn_shows.proofs.device_laws.settled_shows.Goals as goal

pub returns : goal.returns
returns c = settled_shows

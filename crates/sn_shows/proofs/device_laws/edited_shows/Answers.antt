use Rattle.sn_shows.proofs.DeviceDrafts.{edited_shows}
use Rattle.sn_shows.proofs.device_laws.edited_shows.Goals as goal

pub returns : goal.returns
returns c = edited_shows

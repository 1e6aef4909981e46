use Rattle.sn_shows.proofs.DeviceDrafts.{posted_shows}
use Rattle.sn_shows.proofs.device_laws.posted_shows.Goals as goal

pub returns : goal.returns
returns c = posted_shows

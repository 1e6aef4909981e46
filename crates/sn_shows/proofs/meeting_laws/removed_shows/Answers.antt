use Rattle.sn_shows.proofs.DeviceRemoved.{removed_shows}
use Rattle.sn_shows.proofs.meeting_laws.removed_shows.Goals as goal

pub returns : goal.returns
returns c = removed_shows

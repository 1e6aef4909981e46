use Rattle.sn_shows.proofs.DeviceMoved.{forked_shows}
use Rattle.sn_shows.proofs.meeting_laws.forked_shows.Goals as goal

pub returns : goal.returns
returns c = forked_shows

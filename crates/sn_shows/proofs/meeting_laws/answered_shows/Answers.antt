use Rattle.sn_shows.proofs.DeviceAnswered.{answered_shows}
use Rattle.sn_shows.proofs.meeting_laws.answered_shows.Goals as goal

pub returns : goal.returns
returns c = answered_shows

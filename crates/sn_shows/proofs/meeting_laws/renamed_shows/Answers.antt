use Rattle.sn_shows.proofs.DeviceMoved.{renamed_shows}
use Rattle.sn_shows.proofs.meeting_laws.renamed_shows.Goals as goal

pub returns : goal.returns
returns c = renamed_shows

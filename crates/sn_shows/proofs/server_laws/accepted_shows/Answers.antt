use Rattle.sn_shows.proofs.ServersAccept.{accepted_shows}
use Rattle.sn_shows.proofs.server_laws.accepted_shows.Goals as goal

pub returns : goal.returns
returns c = accepted_shows

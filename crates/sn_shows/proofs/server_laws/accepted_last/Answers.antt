use Rattle.sn_shows.proofs.ServersLast.{accepted_last}
use Rattle.sn_shows.proofs.server_laws.accepted_last.Goals as goal

pub returns : goal.returns
returns c = accepted_last

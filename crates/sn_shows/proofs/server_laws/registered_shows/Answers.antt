use Rattle.sn_shows.proofs.ServersRegister.{registered_shows}
use Rattle.sn_shows.proofs.server_laws.registered_shows.Goals as goal

pub returns : goal.returns
returns c = registered_shows
